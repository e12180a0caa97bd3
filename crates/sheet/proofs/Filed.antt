-- What is printed for a sheet is what follows from its file.
use Rattle.std.proofs.Common.{◌≡◌, ℕ, zero, suc, ◌+◌, ◌/◌, ◌%◌, Bool, true, false, cond, not, eqb, ltb, leb, List, [], ◌∷◌, ◌++◌, length, drop, Some, None, Ok, Err, codes, decimal, Option, Result, sym, refl, ap, ◌∙◌, subst, append_assoc, arith, eq-eqb}
use lib.Utf8.{encode}
use Rattle.std.specs.Fmt.{digits, digits_onto, digit_glyph}
use Rattle.std.proofs.lemmas.Bool.Decides.{nat_tests}
use Rattle.division.specs.declared.refusals.Refusal.{Refusal}
use Rattle.division.specs.declared.refusals.Layer.{Layer}
use Rattle.division.specs.declared.refusals.Layer.TheVariants.{Division, Contribution, House, Book, Sheet}
use Rattle.division.specs.Refusals.{clear, letter, after}
use Rattle.houses.specs.Balances.{held}
use Rattle.houses.specs.declared.openings.Opening.{Opening}
use Rattle.houses.specs.Openings.{opened, table_verdict}
use Rattle.book.specs.Refusals.{by_book}
use Rattle.book.specs.States.{State, opening_checks, is_open, closed}
use Rattle.book.specs.Rows.{shares}
use Rattle.book.specs.Calls.{Call, next}
use Rattle.book.specs.Calls as call
use Rattle.book.specs.Histories.{Turn, turn, book_after}
use Rattle.book.specs.Laws.{Lawful}
use Rattle.book.proofs.Histories.{lawful}
use Rattle.book.specs.declared.rows.OpenCase.{OpenCase as Open}
use Rattle.book.specs.declared.answers.Answer.{Answer}
use Rattle.book.specs.declared.answers.Answer.TheVariants.{Amount, Paid, Groups, Number}
use Rattle.sheet.specs.declared.lines.Request.{Request}
use Rattle.sheet.specs.declared.lines.Request.TheVariants.{Join, Update, Regulate, OpenCase, Leave, Income, Use, Recover, Close, Transfer}
use Rattle.sheet.specs.Lines.{Item, Account, Listed, Traded, Asked, BadAccount, Bad, items, text_byte}
use Rattle.sheet.specs.declared.faults.Fault.{Fault}
use Rattle.sheet.specs.declared.faults.Fault.TheVariants.{TooMany, NoMark, BadLine}
use Rattle.sheet.specs.Refusals.{refusal}
use Rattle.sheet.specs.Days.{Day, Taken, GoesOn, Stops, in_case, call_of, answer_to, book_by, answered, asked, letter_of, numbers, outcome, printed, stopped, ending, ended, finish_with, finish, listed, traded, taken, followed, body, new_day, no_book, afterwards, opens, unless_refused, opening, head, marked, run}
use Rattle.sheet.specs.Files.{OpenedSheet, if_clear, opened_with, opened_from, opened_sheet, Above, nothing_above, by_line, with_call, asks, closes, all_ask, follows, day_after, with_line, with_lines, with_close, file_from, printed_from, balances, file, last_book, lines_printed, Whole, no_line, line_end, line_byte, Shows, Ends, Even, Answered, Faithful}

-- a digit in front of a line
glyph_line : {m : ℕ} (d : ℕ) (t : List ℕ) → Whole (suc m) t → Whole (suc m) (digit_glyph false d ∷ t)
glyph_line d t w = line_byte (grind (arith, nat_tests)) w

whole_cond : {m : ℕ} (b : Bool) (x y t : List ℕ) → Whole (suc m) (x ++ t) → Whole (suc m) (y ++ t) → Whole (suc m) (cond b x y ++ t)
whole_cond true x y t v w = v
whole_cond false x y t v w = w

spelled_line : {m : ℕ} (k n : ℕ) (acc t : List ℕ) → Whole (suc m) (acc ++ t) → Whole (suc m) (digits_onto k 10 false n acc ++ t)
spelled_line zero n acc t w = w
spelled_line (suc k) n acc t w =
    let v = glyph_line (n % 10) (acc ++ t) w in
    whole_cond (eqb (n / 10) 0) (digit_glyph false (n % 10) ∷ acc) (digits_onto k 10 false (n / 10) (digit_glyph false (n % 10) ∷ acc)) t v (spelled_line k (n / 10) (digit_glyph false (n % 10) ∷ acc) t v)

-- a number in front of a line
decimal_line : {m : ℕ} (n : ℕ) (t : List ℕ) → Whole (suc m) t → Whole (suc m) (decimal n ++ t)
unfolding digits
decimal_line n t w = spelled_line 64 n [] t w

-- a number and a blank in front of a line, and a number that ends it
blank_line : {m : ℕ} (n : ℕ) (t : List ℕ) → Whole (suc m) t → Whole (suc m) (decimal n ++ (codes " " ++ t))
blank_line n t w = decimal_line n (codes " " ++ t) (line_byte refl w)

last_line : (n : ℕ) → Whole 1 (decimal n ++ codes "\n")
last_line n = decimal_line n (codes "\n") (line_end no_line)

numbers_line : (a : Answer) → Whole 1 (numbers a)
numbers_line (Amount n) = last_line n
numbers_line (Paid i o) = blank_line i (decimal o ++ codes "\n") (last_line o)
numbers_line (Groups b q bs qs) = blank_line b _ (blank_line q _ (blank_line bs _ (last_line qs)))
numbers_line (Number n) = last_line n

layer_line : (l : Layer) → Whole 1 (encode (letter l) ++ codes "\n")
unfolding encode
layer_line Division = line_byte refl (line_end no_line)
layer_line Contribution = line_byte refl (line_end no_line)
layer_line House = line_byte refl (line_end no_line)
layer_line Book = line_byte refl (line_end no_line)
layer_line Sheet = line_byte refl (line_end no_line)

outcome_line : (r : Result Answer Refusal) → Whole 1 (outcome r)
outcome_line (Ok a) = numbers_line a
outcome_line (Err x) = line_byte refl (line_byte refl (blank_line x.number (encode (letter x.layer) ++ codes "\n") (layer_line x.layer)))

-- a letter that is one byte of a line
pub record Plain (c : ℕ) : Type 0 where
  pub one : encode c ≡ c ∷ []
  pub byte : text_byte c ≡ true

plain_letter : (q : Request) → Plain (letter_of q)
unfolding encode
plain_letter (Join code) = record { one = refl; byte = refl }
plain_letter (Update code) = record { one = refl; byte = refl }
plain_letter (Regulate code) = record { one = refl; byte = refl }
plain_letter (OpenCase code) = record { one = refl; byte = refl }
plain_letter (Leave code) = record { one = refl; byte = refl }
plain_letter (Income n) = record { one = refl; byte = refl }
plain_letter (Use n) = record { one = refl; byte = refl }
plain_letter (Recover n) = record { one = refl; byte = refl }
plain_letter Close = record { one = refl; byte = refl }
plain_letter (Transfer from to n) = record { one = refl; byte = refl }

-- ? and O
plain_stop : Plain 63
unfolding encode
plain_stop = record { one = refl; byte = refl }

plain_opening : Plain 79
unfolding encode
plain_opening = record { one = refl; byte = refl }

printed_line : (n c : ℕ) (r : Result Answer Refusal) → Plain c → Whole 1 (printed n c r)
printed_line n c r p =
    blank_line n (encode c ++ (codes " " ++ outcome r)) (subst (λ l. Whole 1 (l ++ (codes " " ++ outcome r))) (sym p.one) (line_byte p.byte (line_byte refl (outcome_line r))))

-- lines, and then more lines
both : {m n : ℕ} {a b : List ℕ} → Whole m a → Whole n b → Whole (m + n) (a ++ b)
both {b} no_line w = subst (λ k. Whole k b) (omega arith) w
both {n = j} {b} (line_end {n} {t} v) w = subst (λ k. Whole k (10 ∷ (t ++ b))) {x = suc (n + j)} {y = suc n + j} (omega arith) (line_end (both v w))
both {n = j} {b} (line_byte {n} {b = c} {t} e v) w =
    let more : Whole (suc (n + j)) (t ++ b) = subst (λ k. Whole k (t ++ b)) {x = suc n + j} {y = suc (n + j)} (omega arith) (both v w) in
    subst (λ k. Whole k (c ∷ (t ++ b))) {x = suc (n + j)} {y = suc n + j} (omega arith) (line_byte e more)

-- a line of output in front
before_ends : (m n : ℕ) (line text out : List ℕ) → Whole m line → Ends n text out → Ends (m + n) text (line ++ out)
before_ends m n line text out w e = record { before = line ++ e.before; whole = both w e.whole; at = ap (λ l. line ++ l) e.at ∙ sym (append_assoc line e.before text) }

before_shows : (m n : ℕ) (line text out : List ℕ) → Whole m line → Shows n text out → Shows (m + n) text (line ++ out)
before_shows m n line text out w e =
    record { before = line ++ e.before; behind = e.behind; whole = both w e.whole; at = ap (λ l. line ++ l) e.at ∙ sym (append_assoc line e.before (text ++ e.behind)) }

-- a file with later calls
pub record Grown (h file : List Turn) : Type 0 where
  pub later : List Turn
  pub is : file ≡ later ++ h

abbrev GrownBy : List Turn → Option Above → Type 0
GrownBy h None = Unit {0}
GrownBy h (Some b) = Grown h b.calls

-- the close of the case that is open leaves none open
next_close : (s : State) (c : Open) → Some c ≡ s.case → (next (call.Close c.number) true s).case ≡ None
next_close s c e =
    ap (λ (b : Bool). (after (cond (not b) (Err (by_book 37)) (Ok (Number c.number))) (closed s) s).case)
    (ap (λ (x : Option Open). is_open x c.number) (sym e) ∙ eq-eqb c.number c.number refl)

-- over a house with the balances o
module _ (o : ℕ → Option ℕ) where
  -- a call on the book that the file leads to
  next_book : (h : List Turn) (k : Option Call) → book_by k (book_after o h) ≡ book_after o (with_call h k)
  next_book h None = refl
  next_book h (Some k) = refl

  next_answer : (h : List Turn) (k : Option Call) → answer_to k (book_after o h) ≡ follows o h k
  next_answer h None = refl
  next_answer h (Some k) = refl

  -- the end of a day with the case c
  finish_ends : (c : Option Open) (n : ℕ) (a : Above) → c ≡ (book_after o a.calls).case →
      Ends (closes c) (ended (book_after o (with_call a.calls (in_case c call.Close)))) (finish_with c n (day_after o a))
  finish_ends None n a e = record { before = []; whole = no_line; at = refl }
  finish_ends (Some c) n a e =
      let d = day_after o a in
      let text = printed n 67 (answered Close d) in
      record {
        before = text;
        whole = printed_line n 67 (answered Close d) (plain_letter Close);
        at = ap (λ x. text ++ ended (book_by (in_case x call.Close) (book_after o a.calls))) (sym e);
      }

  -- what came of a line that prints k lines, beside what the lines up to it have told
  abbrev Tracks : ℕ → Taken → Option Above → Type 0
  Tracks k (GoesOn text e) None = ⊥
  Tracks k (GoesOn text e) (Some b) = (e ≡ day_after o b) × Whole k text
  Tracks k (Stops x) None = Unit {0}
  Tracks k (Stops x) (Some b) = ⊥

  tracks_cond : (c : Bool) (k : ℕ) (t u : Taken) (x y : Option Above) → Tracks k t x → Tracks k u y → Tracks k (cond c t u) (cond c x y)
  tracks_cond true k t u x y v w = v
  tracks_cond false k t u x y v w = w

  tracks : (n : ℕ) (a : Above) (i : Item) → Tracks (asks i) (taken n (day_after o a) i) (with_line o i a)
  tracks n a (Account x) = tt
  tracks n a (Listed s) =
      tracks_cond (leb 64 (length a.securities)) 0 (Stops TooMany) (GoesOn [] (listed s (day_after o a))) None
      (Some (record { securities = a.securities ++ s ∷ []; trades = a.trades; calls = a.calls })) tt (refl, no_line)
  tracks n a (Traded code t) =
      tracks_cond (leb 512 (length a.trades)) 0 (Stops TooMany) (GoesOn [] (traded (record { code = code; trade = t }) (day_after o a))) None
      (Some (record { securities = a.securities; trades = a.trades ++ record { code = code; trade = t } ∷ []; calls = a.calls })) tt (refl, no_line)
  tracks n a (Asked q) =
      let with_book : State → Day = λ b. record { book = b; securities = a.securities; trades = a.trades } in
      (ap with_book (next_book a.calls (call_of q (day_after o a))), printed_line n (letter_of q) (answered q (day_after o a)) (plain_letter q))
  tracks n a BadAccount = tt
  tracks n a Bad = tt

  -- a line, and then those below it
  ends_line : (k n : ℕ) (a : Above) (t : Taken) (x : Option Above) (later : ℕ → Day → List ℕ) (files : Above → List Turn) (counts : Above → ℕ) → Tracks k t x →
      ((m : ℕ) (b : Above) → Ends (counts b) (ended (book_after o (files b))) (later m (day_after o b))) →
      Ends (by_line x (λ b. k + counts b) (1 + closes (book_after o a.calls).case)) (ended (book_after o (by_line x files (with_close o a.calls)))) (followed t n (day_after o a) later)
  ends_line k n a (GoesOn text e) None later files counts w rest = absurd w
  ends_line k n a (GoesOn text e) (Some b) later files counts w rest =
      before_ends k (counts b) text (ended (book_after o (files b))) (later (n + 1) e) w.1
      (subst (λ d. Ends (counts b) (ended (book_after o (files b))) (later (n + 1) d)) (sym w.0) (rest (n + 1) b))
  ends_line k n a (Stops x) None later files counts w rest =
      before_ends 1 (closes (book_after o a.calls).case) (stopped n x) (ended (book_after o (with_close o a.calls))) (finish (n + 1) (day_after o a))
      (printed_line n 63 (Err (refusal x n)) plain_stop) (finish_ends (book_after o a.calls).case (n + 1) a refl)
  ends_line k n a (Stops x) (Some b) later files counts w rest = absurd w

  ends_from : (is : List Item) (n : ℕ) (a : Above) → Ends (printed_from o is a) (ended (book_after o (file_from o is a))) (body is n (day_after o a))
  ends_from [] n a = finish_ends (book_after o a.calls).case n a refl
  ends_from (i ∷ is) n a = ends_line (asks i) n a (taken n (day_after o a) i) (with_line o i a) (body is) (file_from o is) (printed_from o is) (tracks n a i) (ends_from is)

  -- no case is open at the end
  closed_case : (c : Option Open) (h : List Turn) → c ≡ (book_after o h).case → (book_after o (with_call h (in_case c call.Close))).case ≡ None
  closed_case None h e = sym e
  closed_case (Some c) h e = next_close (book_after o h) c e

  settled_line : (x : Option Above) (h : List Turn) (files : Above → List Turn) → ((b : Above) → (book_after o (files b)).case ≡ None) → (book_after o (by_line x files (with_close o h))).case ≡ None
  settled_line None h files rest = closed_case (book_after o h).case h refl
  settled_line (Some b) h files rest = rest b

  settled_from : (is : List Item) (a : Above) → (book_after o (file_from o is a)).case ≡ None
  settled_from [] a = closed_case (book_after o a.calls).case a.calls refl
  settled_from (i ∷ is) a = settled_line (with_line o i a) a.calls (file_from o is) (settled_from is)

  -- a file grows at its front
  grown_close : (h : List Turn) (k : Option Call) → Grown h (with_call h k)
  grown_close h None = record { later = []; is = refl }
  grown_close h (Some k) = record { later = turn k true ∷ []; is = refl }

  grown_over : (h i f : List Turn) → Grown h i → Grown i f → Grown h f
  grown_over h i f g k = record { later = k.later ++ g.later; is = k.is ∙ ap (λ l. k.later ++ l) g.is ∙ sym (append_assoc k.later g.later h) }

  grown_cond : (c : Bool) (h : List Turn) (x y : Option Above) → GrownBy h x → GrownBy h y → GrownBy h (cond c x y)
  grown_cond true h x y g k = g
  grown_cond false h x y g k = k

  grown_by : (i : Item) (a : Above) → GrownBy a.calls (with_line o i a)
  grown_by (Account x) a = tt
  grown_by (Listed s) a =
      grown_cond (leb 64 (length a.securities)) a.calls None (Some (record { securities = a.securities ++ s ∷ []; trades = a.trades; calls = a.calls })) tt (record { later = []; is = refl })
  grown_by (Traded code t) a =
      grown_cond (leb 512 (length a.trades)) a.calls None (Some (record { securities = a.securities; trades = a.trades ++ record { code = code; trade = t } ∷ []; calls = a.calls })) tt (record { later = []; is = refl })
  grown_by (Asked q) a = grown_close a.calls (call_of q (day_after o a))
  grown_by BadAccount a = tt
  grown_by Bad a = tt

  grown_line : (x : Option Above) (h : List Turn) (files : Above → List Turn) → GrownBy h x → ((b : Above) → Grown b.calls (files b)) → Grown h (by_line x files (with_close o h))
  grown_line None h files g rest = grown_close h (in_case (book_after o h).case call.Close)
  grown_line (Some b) h files g rest = grown_over h b.calls (files b) g (rest b)

  grown_from : (is : List Item) (a : Above) → Grown a.calls (file_from o is a)
  grown_from [] a = grown_close a.calls (in_case (book_after o a.calls).case call.Close)
  grown_from (i ∷ is) a = grown_line (with_line o i a) a.calls (file_from o is) (grown_by i a) (grown_from is)

  -- the first line asks for a call
  answered_first : (below : List Item) (q : Request) (n : ℕ) (a : Above) → Answered o (file_from o (Asked q ∷ below) a) (n + 0) 0 q a (body (Asked q ∷ below) n (day_after o a))
  answered_first below q n a =
      let d = day_after o a in
      let rest = body below (n + 1) (asked q d) in
      let g = grown_from below (record { securities = a.securities; trades = a.trades; calls = with_call a.calls (call_of q d) }) in
      record {
        shows = record {
          before = [];
          behind = rest;
          whole = no_line;
          at = ap (λ (r : Result Answer Refusal). printed n (letter_of q) r ++ rest) (next_answer a.calls (call_of q d)) ∙
              ap (λ (m : ℕ). printed m (letter_of q) (follows o a.calls (call_of q d)) ++ rest) {x = n} {y = n + 0} (omega arith);
        };
        later = g.later;
        filed = g.is;
      }

  -- a line further down does
  answered_line : (k l j n : ℕ) (q : Request) (a b : Above) (t : Taken) (x : Option Above) (later : ℕ → Day → List ℕ) (files : Above → List Turn) (told : Above → Option Above) → Tracks k t x →
      ((m : ℕ) (c : Above) → told c ≡ Some b → Answered o (files c) (m + j) l q b (later m (day_after o c))) → by_line x told None ≡ Some b →
      Answered o (by_line x files (with_close o a.calls)) (n + suc j) (k + l) q b (followed t n (day_after o a) later)
  answered_line k l j n q a b (GoesOn text e) None later files told w rest is = absurd w
  answered_line k l j n q a b (GoesOn text e) (Some c) later files told w rest is =
      let r = rest (n + 1) c is in
      let answer = follows o b.calls (call_of q (day_after o b)) in
      let further : Shows l (printed (n + suc j) (letter_of q) answer) (later (n + 1) e) =
      subst (λ (m : ℕ). Shows l (printed m (letter_of q) answer) (later (n + 1) e)) {x = n + 1 + j} {y = n + suc j} (omega arith)
      (subst (λ (d : Day). Shows l (printed (n + 1 + j) (letter_of q) answer) (later (n + 1) d)) (sym w.0) r.shows) in
      record { shows = before_shows k l text (printed (n + suc j) (letter_of q) answer) (later (n + 1) e) w.1 further; later = r.later; filed = r.filed }
  answered_line k l j n q a b (Stops x) None later files told w rest is = let z : ◌≡◌ {A = ℕ} 0 1 = cc in absurd (omega arith)
  answered_line k l j n q a b (Stops x) (Some c) later files told w rest is = absurd w

  answered_from : (above below : List Item) (q : Request) (n : ℕ) (a b : Above) → with_lines o above a ≡ Some b →
      Answered o (file_from o (above ++ Asked q ∷ below) a) (n + length above) (all_ask above) q b (body (above ++ Asked q ∷ below) n (day_after o a))
  answered_from [] below q n a b is =
      let same : a ≡ b = cc in
      subst (λ (c : Above). Answered o (file_from o (Asked q ∷ below) a) (n + 0) 0 q c (body (Asked q ∷ below) n (day_after o a))) same (answered_first below q n a)
  answered_from (i ∷ above) below q n a b is =
      answered_line (asks i) (all_ask above) (length above) n q a b (taken n (day_after o a) i) (with_line o i a) (body (above ++ Asked q ∷ below)) (file_from o (above ++ Asked q ∷ below)) (with_lines o above) (tracks n a i)
      (λ m c told. answered_from above below q m c b told) is

-- what is printed where no book is opened, and where one is
abbrev Runs : Option OpenedSheet → List ℕ → Type 0
Runs None out = Ends 1 (ending 0 0 0) out
Runs (Some d) out = (clear (opening_checks (balances d)) ≡ Ok tt) × (out ≡ body d.lines d.first (new_day d.accounts))

runs_cond : (c : Bool) (x y : Option OpenedSheet) (s t : List ℕ) → Runs x s → Runs y t → Runs (cond c x y) (cond c s t)
runs_cond true x y s t v w = v
runs_cond false x y s t v w = w

runs_clear : (r : Result (Unit {0}) Refusal) (x : Option OpenedSheet) (n : ℕ) (out : List ℕ) → (r ≡ Ok tt → Runs x out) → Runs (if_clear r x) (unless_refused r n out)
runs_clear (Ok u) x n out h = h refl
runs_clear (Err e) x n out h = record { before = printed n 79 (Err e); whole = printed_line n 79 (Err e) plain_opening; at = refl }

runs_stopped : (n : ℕ) (x : Fault) → Ends 1 (ending 0 0 0) (stopped n x ++ no_book)
runs_stopped n x = record { before = stopped n x; whole = printed_line n 63 (Err (refusal x n)) plain_stop; at = refl }

checked_last : (r q : Result (Unit {0}) Refusal) → afterwards r q ≡ Ok tt → q ≡ Ok tt
checked_last (Ok u) q e = e
checked_last (Err x) q e = let z : ◌≡◌ {A = ℕ} 0 1 = cc in absurd (omega arith)

runs_with : (n : ℕ) (os : List Opening) (is : List Item) → Runs (opened_with n os is) (opening n os is)
runs_with n os is = runs_clear (opens os) (Some (record { accounts = os; first = n; lines = is })) n (body is n (new_day os)) (λ e. (checked_last (table_verdict os) (clear (opening_checks (opened os))) e, refl))

runs_from : (is : List Item) (n : ℕ) (os : List Opening) → Runs (opened_from is n os) (head is n os)
runs_from [] n os = runs_with n os []
runs_from (Account a ∷ is) n os =
    runs_cond (leb 128 (length os)) None (opened_from is (n + 1) (os ++ a ∷ [])) (stopped n TooMany ++ no_book) (head is (n + 1) (os ++ a ∷ [])) (runs_stopped n TooMany) (runs_from is (n + 1) (os ++ a ∷ []))
runs_from (Listed s ∷ is) n os = runs_with n os (Listed s ∷ is)
runs_from (Traded code t ∷ is) n os = runs_with n os (Traded code t ∷ is)
runs_from (Asked q ∷ is) n os = runs_with n os (Asked q ∷ is)
runs_from (BadAccount ∷ is) n os = runs_stopped n BadLine
runs_from (Bad ∷ is) n os = runs_with n os (Bad ∷ is)

runs : (s : List ℕ) → Runs (opened_sheet s) (run s)
runs s =
    runs_cond (ltb 65536 (length s)) None (cond (marked s) (opened_from (items (drop 6 s)) 2 []) None) (stopped 1 TooMany ++ no_book) (cond (marked s) (head (items (drop 6 s)) 2 []) (stopped 1 NoMark ++ no_book)) (runs_stopped 1 TooMany)
    (runs_cond (marked s) (opened_from (items (drop 6 s)) 2 []) None (head (items (drop 6 s)) 2 []) (stopped 1 NoMark ++ no_book) (runs_from (items (drop 6 s)) 2 []) (runs_stopped 1 NoMark))

-- what follows for a sheet that opens a book
module _ (d : OpenedSheet) (out : List ℕ) (r : Runs (Some d) out) where
  sheet_ends : Ends (lines_printed d) (ended (last_book d)) out
  sheet_ends = subst (λ (l : List ℕ). Ends (lines_printed d) (ended (last_book d)) l) (sym r.1) (ends_from (balances d) d.lines d.first nothing_above)

  sheet_lawful : Lawful (balances d) (file d)
  sheet_lawful = lawful (balances d) (file d) r.0

  sheet_even : Even out
  sheet_even =
      let e = sheet_ends in
      let rows = (last_book d).rows in
      record {
        lines = lines_printed d;
        money = shares rows;
        rows = length rows;
        ends = record { before = e.before; whole = e.whole; at = e.at ∙ ap (λ (b : Option ℕ). e.before ++ ending (shares rows) (held b) (length rows)) sheet_lawful.backed };
      }

  sheet_answered : (above below : List Item) (q : Request) (a : Above) → d.lines ≡ above ++ Asked q ∷ below → with_lines (balances d) above nothing_above ≡ Some a →
      Answered (balances d) (file d) (d.first + length above) (all_ask above) q a out
  sheet_answered above below q a is told =
      subst (λ (l : List ℕ). Answered (balances d) (file d) (d.first + length above) (all_ask above) q a l) (sym r.1)
      (subst (λ (is : List Item). Answered (balances d) (file_from (balances d) is nothing_above) (d.first + length above) (all_ask above) q a (body is d.first (new_day d.accounts))) (sym is)
      (answered_from (balances d) above below q d.first nothing_above a told))

even_in : (x : Option OpenedSheet) (out : List ℕ) → Runs x out → Even out
even_in None out r = record { lines = 1; money = 0; rows = 0; ends = r }
even_in (Some d) out r = sheet_even d out r

faithful_in : (s out : List ℕ) → Runs (opened_sheet s) out → Faithful s out
faithful_in s out r =
    let by : (x : Option OpenedSheet) → opened_sheet s ≡ x → Runs x out = λ x e. subst (λ (y : Option OpenedSheet). Runs y out) e r in
    record {
      unopened = λ e. by None e;
      last = λ d e. sheet_ends d out (by (Some d) e);
      even = even_in (opened_sheet s) out r;
      settled = λ d e. settled_from (balances d) d.lines nothing_above;
      lawful = λ d e. sheet_lawful d out (by (Some d) e);
      calls = λ d e. sheet_answered d out (by (Some d) e);
    }

-- what is printed for any bytes is faithful to them
pub faithful : (s : List ℕ) → Faithful s (run s)
faithful s = faithful_in s (run s) (runs s)
