-- What running a sheet prints.
use Rattle.std.specs.Prelude.{ℕ, ◌+◌, Bool, true, cond, List, [], ◌∷◌, ◌++◌, length, take, drop, Some, None, Ok, Err, codes, decimal, Option, Result, ◌==◌, nat_le, nat_lt, map, filter}
use Rattle.std.proofs.Math.Utf8.{encode}
use Rattle.std.specs.Str.{bytes_eq}
use Rattle.division.specs.declared.refusals.Refusal.{Refusal}
use Rattle.division.specs.Refusals.{clear, letter}
use Rattle.contribution.specs.declared.terms.Security.{Security}
use Rattle.contribution.specs.declared.terms.Trade.{Trade}
use Rattle.houses.specs.Balances.{held}
use Rattle.houses.specs.declared.openings.Opening.{Opening}
use Rattle.houses.specs.Openings.{opened, table_verdict}
use Rattle.book.specs.declared.rows.OpenCase.{OpenCase as Open}
use Rattle.book.specs.Refusals.{by_book}
use Rattle.book.specs.Rows.{shares}
use Rattle.book.specs.States.{State, opening_checks, opened_over}
use Rattle.book.specs.declared.answers.Answer.{Answer}
use Rattle.book.specs.declared.answers.Answer.TheVariants.{Amount, Paid, Groups, Number}
use Rattle.book.specs.Calls.{Call, said, next}
use Rattle.book.specs.Calls as call
use Rattle.sheet.specs.declared.faults.Fault.{Fault}
use Rattle.sheet.specs.declared.faults.Fault.TheVariants.{TooMany, NoMark, BadLine}
use Rattle.sheet.specs.declared.lines.Request.{Request}
use Rattle.sheet.specs.declared.lines.Request.TheVariants.{Join, Update, Regulate, OpenCase, Leave, Income, Use, Recover, Close, Transfer}
use Rattle.sheet.specs.declared.trades.MemberTrade.{MemberTrade}
use Rattle.sheet.specs.Refusals.{refusal}
use Rattle.sheet.specs.Lines.{Item, Account, Listed, Traded, Asked, BadAccount, Bad, items}

-- what has been taken from the lines so far
pub record Day : Type 0 where
  pub book : State
  pub securities : List Security
  pub trades : List MemberTrade

-- the trades of one member, in their order
abbrev pub trades_of : List MemberTrade → ℕ → List Trade
trades_of ts code = map (λ (t : MemberTrade). t.trade) (filter (λ t. t.code == code) ts)

-- a call about the open case, if there is one
abbrev pub in_case : Option Open → (ℕ → Call) → Option Call
in_case None f = None
in_case (Some c) f = Some (f c.number)

-- the call that a line asks for; none where there is no case that it could be about
abbrev pub call_of : Request → Day → Option Call
call_of (Join code) d = Some (call.Join code)
call_of (Update code) d = Some (call.Update code d.securities (trades_of d.trades code))
call_of (Regulate code) d = Some (call.Regulate code)
call_of (OpenCase code) d = Some (call.OpenCase code)
call_of (Leave code) d = Some (call.Leave code)
call_of (Income n) d = Some (call.Income n)
call_of (Use n) d = in_case d.book.case (λ k. call.Use k n)
call_of (Recover n) d = in_case d.book.case (λ k. call.Recover k n)
call_of Close d = in_case d.book.case call.Close
call_of (Transfer from to n) d = Some (call.OtherTransfer from to n)

-- its answer, a table house being always ready, and the book after it; without a case 37
abbrev pub answer_to : Option Call → State → Result Answer Refusal
answer_to None s = Err (by_book 37)
answer_to (Some k) s = said k true s

abbrev pub book_by : Option Call → State → State
book_by None s = s
book_by (Some k) s = next k true s

abbrev pub answered : Request → Day → Result Answer Refusal
answered q d = answer_to (call_of q d) d.book

abbrev pub asked : Request → Day → Day
asked q d = record { book = book_by (call_of q d) d.book; securities = d.securities; trades = d.trades }

-- J, U, R, D, L, I, W, B, C, X
abbrev pub letter_of : Request → ℕ
letter_of (Join code) = 74
letter_of (Update code) = 85
letter_of (Regulate code) = 82
letter_of (OpenCase code) = 68
letter_of (Leave code) = 76
letter_of (Income n) = 73
letter_of (Use n) = 87
letter_of (Recover n) = 66
letter_of Close = 67
letter_of (Transfer from to n) = 88

-- the numbers of an answer, parted by blanks, and the end of the line
abbrev pub numbers : Answer → List ℕ
numbers (Amount n) = decimal n ++ codes "\n"
numbers (Paid i o) = decimal i ++ (codes " " ++ (decimal o ++ codes "\n"))
numbers (Groups b q bs qs) = decimal b ++ (codes " " ++ (decimal q ++ (codes " " ++ (decimal bs ++ (codes " " ++ (decimal qs ++ codes "\n"))))))
numbers (Number n) = decimal n ++ codes "\n"

-- an answer, or N with the refusal's number and the letter of its layer
abbrev pub outcome : Result Answer Refusal → List ℕ
outcome (Ok a) = numbers a
outcome (Err x) = codes "N " ++ (decimal x.number ++ (codes " " ++ (encode (letter x.layer) ++ codes "\n")))

-- a line of the output: the line's number, a letter and what came of it
abbrev pub printed : ℕ → ℕ → Result Answer Refusal → List ℕ
printed n c r = decimal n ++ (codes " " ++ (encode c ++ (codes " " ++ outcome r)))

-- the run stops at line n: ? with the refusal
abbrev pub stopped : ℕ → Fault → List ℕ
stopped n fault = printed n 63 (Err (refusal fault n))

-- the last line: all shares, the fund's balance and the number of rows
abbrev pub ending : ℕ → ℕ → ℕ → List ℕ
ending all fund rows = codes "end " ++ (decimal all ++ (codes " " ++ (decimal fund ++ (codes " " ++ (decimal rows ++ codes "\n")))))

abbrev pub ended : State → List ℕ
ended s = ending (shares s.rows) (held (s.balances 0)) (length s.rows)

-- the end of a day at line n: a case that is open is closed
abbrev pub finish_with : Option Open → ℕ → Day → List ℕ
finish_with None n d = ended d.book
finish_with (Some c) n d = printed n 67 (answered Close d) ++ ended (asked Close d).book

abbrev pub finish : ℕ → Day → List ℕ
finish n d = finish_with d.book.case n d

-- what comes of a line below the head
pub data Taken : Type 0 where
  -- what it prints, and the day after it
  GoesOn : List ℕ → Day → Taken
  -- the fault that stops the run
  Stops : Fault → Taken

-- one more security, one more trade
abbrev pub listed : Security → Day → Day
listed s d = record { book = d.book; securities = d.securities ++ s ∷ []; trades = d.trades }

abbrev pub traded : MemberTrade → Day → Day
traded t d = record { book = d.book; securities = d.securities; trades = d.trades ++ t ∷ [] }

abbrev pub taken : ℕ → Day → Item → Taken
taken n d (Account a) = Stops BadLine
taken n d (Listed s) = cond (nat_le 64 (length d.securities)) (Stops TooMany) (GoesOn [] (listed s d))
taken n d (Traded code t) = cond (nat_le 512 (length d.trades)) (Stops TooMany) (GoesOn [] (traded (record { code = code; trade = t }) d))
taken n d (Asked q) = GoesOn (printed n (letter_of q) (answered q d)) (asked q d)
taken n d BadAccount = Stops BadLine
taken n d Bad = Stops BadLine

-- a line that goes on is followed by the next ones; a stop by the end, one line further on
abbrev pub followed : Taken → ℕ → Day → (ℕ → Day → List ℕ) → List ℕ
followed (GoesOn text e) n d later = text ++ later (n + 1) e
followed (Stops x) n d later = stopped n x ++ finish (n + 1) d

-- the lines below the head, from line n on
abbrev pub body : List Item → ℕ → Day → List ℕ
body [] n d = finish n d
body (i ∷ is) n d = followed (taken n d i) n d (body is)

-- without a book
abbrev pub no_book : List ℕ
no_book = ending 0 0 0

-- whether a house with these accounts can be made and a book be opened over it, and if not why
abbrev pub afterwards : Result (Unit {0}) Refusal → Result (Unit {0}) Refusal → Result (Unit {0}) Refusal
afterwards (Ok u) r = r
afterwards (Err x) r = Err x

abbrev pub opens : List Opening → Result (Unit {0}) Refusal
opens os = afterwards (table_verdict os) (clear (opening_checks (opened os)))

-- what follows the opening, or O with the refusal
abbrev pub unless_refused : Result (Unit {0}) Refusal → ℕ → List ℕ → List ℕ
unless_refused (Ok u) n out = out
unless_refused (Err x) n out = printed n 79 (Err x) ++ no_book

-- a new day over a table house with these accounts
abbrev pub new_day : List Opening → Day
new_day os = record { book = opened_over (opened os); securities = []; trades = [] }

-- the house is made and the book opened, before line n is looked at
abbrev pub opening : ℕ → List Opening → List Item → List ℕ
opening n os is = unless_refused (opens os) n (body is n (new_day os))

-- the head from line n on, os being the accounts so far
abbrev pub head : List Item → ℕ → List Opening → List ℕ
head [] n os = opening n os []
head (Account a ∷ is) n os = cond (nat_le 128 (length os)) (stopped n TooMany ++ no_book) (head is (n + 1) (os ++ a ∷ []))
head (Listed s ∷ is) n os = opening n os (Listed s ∷ is)
head (Traded code t ∷ is) n os = opening n os (Traded code t ∷ is)
head (Asked q ∷ is) n os = opening n os (Asked q ∷ is)
head (BadAccount ∷ is) n os = stopped n BadLine ++ no_book
head (Bad ∷ is) n os = opening n os (Bad ∷ is)

-- whether the bytes begin with the mark, a blank, the version and byte 10
abbrev pub marked : List ℕ → Bool
marked s = bytes_eq (take 6 s) (codes "AFG 1\n")

-- what a sheet prints
abbrev pub run : List ℕ → List ℕ
run s = cond (nat_lt 65536 (length s)) (stopped 1 TooMany ++ no_book) (cond (marked s) (head (items (drop 6 s)) 2 []) (stopped 1 NoMark ++ no_book))
