-- The file of a sheet: the calls that its lines make on the book, and what is printed of them.
use Rattle.std.specs.Prelude.{◌≡◌, ℕ, suc, ◌+◌, true, cond, List, [], ◌∷◌, ◌++◌, length, drop, Some, None, Ok, Err, Option, Result, nat_le, nat_lt}
use Rattle.division.specs.declared.refusals.Refusal.{Refusal}
use Rattle.contribution.specs.declared.terms.Security.{Security}
use Rattle.houses.specs.declared.openings.Opening.{Opening}
use Rattle.houses.specs.Openings.{opened}
use Rattle.book.specs.declared.answers.Answer.{Answer}
use Rattle.book.specs.declared.rows.OpenCase.{OpenCase as Open}
use Rattle.book.specs.Refusals.{by_book}
use Rattle.book.specs.States.{State}
use Rattle.book.specs.Calls.{Call}
use Rattle.book.specs.Calls as call
use Rattle.book.specs.Histories.{Turn, turn, book_after, filed}
use Rattle.book.specs.Laws.{Lawful}
use Rattle.sheet.specs.declared.lines.Request.{Request}
use Rattle.sheet.specs.declared.trades.MemberTrade.{MemberTrade}
use Rattle.sheet.specs.Lines.{Item, Account, Listed, Traded, Asked, BadAccount, Bad, items, text_byte}
use Rattle.sheet.specs.Days.{Day, in_case, call_of, letter_of, printed, ending, ended, opens, marked}

-- a sheet that opens a book: the accounts of its house, and the lines below them with the number of the first
pub record OpenedSheet : Type 0 where
  pub accounts : List Opening
  pub first : ℕ
  pub lines : List Item

-- none where a check refuses
abbrev pub if_clear : Result (Unit {0}) Refusal → Option OpenedSheet → Option OpenedSheet
if_clear (Ok u) d = d
if_clear (Err x) d = None

-- the house can be made with the accounts os, and the book be opened over it
abbrev pub opened_with : ℕ → List Opening → List Item → Option OpenedSheet
opened_with n os is = if_clear (opens os) (Some (record { accounts = os; first = n; lines = is }))

-- below the lines of at most 128 accounts
abbrev pub opened_from : List Item → ℕ → List Opening → Option OpenedSheet
opened_from [] n os = opened_with n os []
opened_from (Account a ∷ is) n os = cond (nat_le 128 (length os)) None (opened_from is (n + 1) (os ++ a ∷ []))
opened_from (Listed s ∷ is) n os = opened_with n os (Listed s ∷ is)
opened_from (Traded code t ∷ is) n os = opened_with n os (Traded code t ∷ is)
opened_from (Asked q ∷ is) n os = opened_with n os (Asked q ∷ is)
opened_from (BadAccount ∷ is) n os = None
opened_from (Bad ∷ is) n os = opened_with n os (Bad ∷ is)

-- the sheet in the bytes, if it opens a book
abbrev pub opened_sheet : List ℕ → Option OpenedSheet
opened_sheet s = cond (nat_lt 65536 (length s)) None (cond (marked s) (opened_from (items (drop 6 s)) 2 []) None)

-- what the lines above have told: securities, trades, and the calls on the book, the latest first
pub record Above : Type 0 where
  pub securities : List Security
  pub trades : List MemberTrade
  pub calls : List Turn

-- above the first line
abbrev pub nothing_above : Above
nothing_above = record { securities = []; trades = []; calls = [] }

-- what follows where a line goes on, and what where it stops the run
abbrev pub by_line : {X : Type 0} → Option Above → (Above → X) → X → X
by_line None later stop = stop
by_line (Some b) later stop = later b

-- the calls h and one more, if a line makes one; a table house is always ready
abbrev pub with_call : List Turn → Option Call → List Turn
with_call h None = h
with_call h (Some k) = turn k true ∷ h

-- how many calls a line asks for, and so how many lines are printed for it if it goes on
abbrev pub asks : Item → ℕ
asks (Account a) = 0
asks (Listed s) = 0
asks (Traded code t) = 0
asks (Asked q) = 1
asks BadAccount = 0
asks Bad = 0

-- how many cases are still to be closed
abbrev pub closes : Option Open → ℕ
closes None = 0
closes (Some c) = 1

-- how many of the lines ask for a call
abbrev pub all_ask : List Item → ℕ
all_ask [] = 0
all_ask (i ∷ is) = asks i + all_ask is

-- over a house with the balances o
module _ (o : ℕ → Option ℕ) where
  -- the answer that follows from the calls h; without a case 37
  abbrev pub follows : List Turn → Option Call → Result Answer Refusal
  follows h None = Err (by_book 37)
  follows h (Some k) = filed o h (turn k true)

  -- the day that the lines above have led to
  abbrev pub day_after : Above → Day
  day_after a = record { book = book_after o a.calls; securities = a.securities; trades = a.trades }

  -- one line more; none where it stops the run: a line that is not well formed or of an account, the 65th security, the 513th trade
  abbrev pub with_line : Item → Above → Option Above
  with_line (Account x) a = None
  with_line (Listed s) a = cond (nat_le 64 (length a.securities)) None (Some (record { securities = a.securities ++ s ∷ []; trades = a.trades; calls = a.calls }))
  with_line (Traded code t) a = cond (nat_le 512 (length a.trades)) None (Some (record { securities = a.securities; trades = a.trades ++ record { code = code; trade = t } ∷ []; calls = a.calls }))
  with_line (Asked q) a = Some (record { securities = a.securities; trades = a.trades; calls = with_call a.calls (call_of q (day_after a)) })
  with_line BadAccount a = None
  with_line Bad a = None

  -- all the lines, if none stops the run
  abbrev pub with_lines : List Item → Above → Option Above
  with_lines [] a = Some a
  with_lines (i ∷ is) a = by_line (with_line i a) (with_lines is) None

  -- a case that is open after the calls h is closed
  abbrev pub with_close : List Turn → List Turn
  with_close h = with_call h (in_case (book_after o h).case call.Close)

  -- the calls of the lines up to the end or a stop, and the close of a case that is open then
  abbrev pub file_from : List Item → Above → List Turn
  file_from [] a = with_close a.calls
  file_from (i ∷ is) a = by_line (with_line i a) (file_from is) (with_close a.calls)

  -- how many lines are printed for them: one for each call that is asked for, one for a stop and one for the close
  abbrev pub printed_from : List Item → Above → ℕ
  printed_from [] a = closes (book_after o a.calls).case
  printed_from (i ∷ is) a = by_line (with_line i a) (λ b. asks i + printed_from is b) (1 + closes (book_after o a.calls).case)

-- the balances of a sheet's house at the opening
abbrev pub balances : OpenedSheet → ℕ → Option ℕ
balances d = opened d.accounts

-- the file of a sheet, the latest call first
abbrev pub file : OpenedSheet → List Turn
file d = file_from (balances d) d.lines nothing_above

-- the book at its end
abbrev pub last_book : OpenedSheet → State
last_book d = book_after (balances d) (file d)

-- how many lines are printed above the end line
abbrev pub lines_printed : OpenedSheet → ℕ
lines_printed d = printed_from (balances d) d.lines nothing_above

-- n whole lines, each with byte 10 at its end and nowhere else
pub data Whole : ℕ → List ℕ → Type 0 where
  no_line : Whole 0 []
  line_end : {n : ℕ} {t : List ℕ} → Whole n t → Whole (suc n) (10 ∷ t)
  line_byte : {n b : ℕ} {t : List ℕ} → text_byte b ≡ true → Whole (suc n) t → Whole (suc n) (b ∷ t)

-- the text stands in the output behind n whole lines
pub record Shows (n : ℕ) (text out : List ℕ) : Type 0 where
  pub before : List ℕ
  pub behind : List ℕ
  pub whole : Whole n before
  pub at : out ≡ before ++ (text ++ behind)

-- the text is the output's end, behind n whole lines
pub record Ends (n : ℕ) (text out : List ℕ) : Type 0 where
  pub before : List ℕ
  pub whole : Whole n before
  pub at : out ≡ before ++ text

-- the end line shows as much in the fund's account as all shares are
pub record Even (out : List ℕ) : Type 0 where
  pub lines : ℕ
  pub money : ℕ
  pub rows : ℕ
  pub ends : Ends lines (ending money money rows) out

-- line n, which asks for q where the lines above have told a, prints behind k lines the answer that follows from their calls
pub record Answered (o : ℕ → Option ℕ) (file : List Turn) (n k : ℕ) (q : Request) (a : Above) (out : List ℕ) : Type 0 where
  pub shows : Shows k (printed n (letter_of q) (follows o a.calls (call_of q (day_after o a)))) out
  -- and in the file its call comes next after theirs
  pub later : List Turn
  pub filed : file ≡ later ++ with_call a.calls (call_of q (day_after o a))

-- what holds of the bytes s of every sheet and of what is printed for it
pub record Faithful (s out : List ℕ) : Type 0 where
  -- where no book is opened, one line refuses, and the end line shows nothing
  pub unopened : opened_sheet s ≡ None → Ends 1 (ending 0 0 0) out
  -- the end line shows the book that follows from the file
  pub last : (d : OpenedSheet) → opened_sheet s ≡ Some d → Ends (lines_printed d) (ended (last_book d)) out
  -- and as much in the fund's account as all shares are
  pub even : Even out
  -- no case is left open
  pub settled : (d : OpenedSheet) → opened_sheet s ≡ Some d → (last_book d).case ≡ None
  -- what holds after every history of calls holds after the file
  pub lawful : (d : OpenedSheet) → opened_sheet s ≡ Some d → Lawful (balances d) (file d)
  -- each line that asks for a call, if no line above it stops the run, prints the answer that follows from the calls above it, behind a line for each of them
  pub calls : (d : OpenedSheet) → opened_sheet s ≡ Some d → (above below : List Item) (q : Request) (a : Above) → d.lines ≡ above ++ Asked q ∷ below → with_lines (balances d) above nothing_above ≡ Some a →
      Answered (balances d) (file d) (d.first + length above) (all_ask above) q a out
