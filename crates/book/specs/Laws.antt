-- What holds after every history of calls.
use Rattle.std.specs.Prelude.{◌≡◌, ℕ, ◌+◌, ◌-◌, ◌<◌, Bool, true, false, cond, ◌&&◌, List, [], ◌∷◌, ◌++◌, map, length, is_some, is_ok, Some, Ok, Err, sum, Option, Result, ◌==◌, slice_index, slice_index_or}
use Rattle.division.specs.declared.refusals.Refusal.{Refusal}
use Rattle.division.specs.Fairness.{Fair}
use Rattle.contribution.specs.Steps.{minimum, calculated, renewed}
use Rattle.book.specs.declared.rows.Row.{Row}
use Rattle.book.specs.Rows.{shares, place, row_of, nobody}
use Rattle.book.specs.States.{State}
use Rattle.book.specs.Calls.{Call, Answer, Join, Update, Regulate, Income, OpenCase, Use, Recover, Close, Leave, OtherTransfer, Amount, Paid, Groups, Number}
use Rattle.book.specs.Histories.{Turn, turn, book_after, filed, Leads}

-- the numbers of an answer: the amount, both of a regulate, the groups of a use in sum
abbrev pub amount : Answer → ℕ
amount (Amount n) = n
amount (Paid i o) = 0
amount (Groups b q bs qs) = 0
amount (Number n) = 0

abbrev pub first : Answer → ℕ
first (Amount n) = 0
first (Paid i o) = i
first (Groups b q bs qs) = 0
first (Number n) = 0

abbrev pub second : Answer → ℕ
second (Amount n) = 0
second (Paid i o) = o
second (Groups b q bs qs) = 0
second (Number n) = 0

abbrev pub all_groups : Answer → ℕ
all_groups (Amount n) = 0
all_groups (Paid i o) = 0
all_groups (Groups b q bs qs) = b + q + bs + qs
all_groups (Number n) = 0

-- what an accepted call paid into the fund, by its answer
abbrev pub came_in : Call → Answer → ℕ
came_in (Join code) a = amount a
came_in (Update code ss ts) a = 0
came_in (Regulate code) a = first a
came_in (Income n) a = amount a
came_in (OpenCase code) a = 0
came_in (Use k n) a = 0
came_in (Recover k n) a = amount a
came_in (Close k) a = 0
came_in (Leave code) a = 0
came_in (OtherTransfer from to n) a = 0

-- what it paid out
abbrev pub went_out : Call → Answer → ℕ
went_out (Join code) a = 0
went_out (Update code ss ts) a = 0
went_out (Regulate code) a = second a
went_out (Income n) a = 0
went_out (OpenCase code) a = 0
went_out (Use k n) a = all_groups a
went_out (Recover k n) a = 0
went_out (Close k) a = 0
went_out (Leave code) a = amount a
went_out (OtherTransfer from to n) a = 0

-- what follows from an accepted answer; a refused call leaves what was
abbrev pub if_accepted : {X : Type 0} → Result Answer Refusal → (Answer → X) → X → X
if_accepted (Ok a) f x = f a
if_accepted (Err e) f x = x

-- the member of a case that the call opens, or the one of before
abbrev pub accused : Call → ℕ → ℕ
accused (Join code) d = d
accused (Update code ss ts) d = d
accused (Regulate code) d = d
accused (Income n) d = d
accused (OpenCase code) d = code
accused (Use k n) d = d
accused (Recover k n) d = d
accused (Close k) d = d
accused (Leave code) d = d
accused (OtherTransfer from to n) d = d

-- what a member owes after an accepted call, m being what it owed before: the minimum when it joins, and what steps 1 to 5 make of m at its updates
abbrev pub owes_by : ℕ → Call → ℕ → ℕ
owes_by member (Join code) m = cond (code == member) minimum m
owes_by member (Update code ss ts) m = cond (code == member) (renewed (calculated ss ts) m) m
owes_by member (Regulate code) m = m
owes_by member (Income n) m = m
owes_by member (OpenCase code) m = m
owes_by member (Use k n) m = m
owes_by member (Recover k n) m = m
owes_by member (Close k) m = m
owes_by member (Leave code) m = m
owes_by member (OtherTransfer from to n) m = m

-- whether the call is a join or a regulate of the member
abbrev pub pays_up : ℕ → Call → Bool
pays_up member (Join code) = code == member
pays_up member (Update code ss ts) = false
pays_up member (Regulate code) = code == member
pays_up member (Income n) = false
pays_up member (OpenCase code) = false
pays_up member (Use k n) = false
pays_up member (Recover k n) = false
pays_up member (Close k) = false
pays_up member (Leave code) = false
pays_up member (OtherTransfer from to n) = false

-- the charge of a call on a base, told by the base before and after it: only a use charges
abbrev pub charge : Call → ℕ → ℕ → ℕ
charge (Join code) before after = 0
charge (Update code ss ts) before after = 0
charge (Regulate code) before after = 0
charge (Income n) before after = 0
charge (OpenCase code) before after = 0
charge (Use k n) before after = before - after
charge (Recover k n) before after = 0
charge (Close k) before after = 0
charge (Leave code) before after = 0
charge (OtherTransfer from to n) before after = 0

module _ (o : ℕ → Option ℕ) where
  -- all that was paid in, and all that was paid out
  abbrev pub paid_in : List Turn → ℕ
  paid_in [] = 0
  paid_in (t ∷ h) = paid_in h + if_accepted (filed o h t) (came_in t.call) 0

  abbrev pub paid_out : List Turn → ℕ
  paid_out [] = 0
  paid_out (t ∷ h) = paid_out h + if_accepted (filed o h t) (went_out t.call) 0

  -- the member of the last accepted open case
  abbrev pub defaulter : List Turn → ℕ
  defaulter [] = 0
  defaulter (t ∷ h) = if_accepted (filed o h t) (λ _. accused t.call (defaulter h)) (defaulter h)

  -- what a member owes, by the calls alone
  abbrev pub owes : ℕ → List Turn → ℕ
  owes member [] = 0
  owes member (t ∷ h) = if_accepted (filed o h t) (λ _. owes_by member t.call (owes member h)) (owes member h)

  -- what it owed at its last accepted join or regulate
  abbrev pub owed : ℕ → List Turn → ℕ
  owed member [] = 0
  owed member (t ∷ h) = cond (is_ok (filed o h t) && pays_up member t.call) (owes member (t ∷ h)) (owed member h)

  -- the charges on its base since then
  abbrev pub charges_since : ℕ → List Turn → ℕ
  charges_since member [] = 0
  charges_since member (t ∷ h) =
      cond (is_ok (filed o h t) && pays_up member t.call) 0
      (charges_since member h + charge t.call (row_of (book_after o h).rows member).base (row_of (book_after o (t ∷ h)).rows member).base)

-- one row to a member
abbrev pub Unique : List Row → Type 0
Unique [] = Unit {0}
Unique (r ∷ rows) = (is_some (place rows r.code) ≡ false) × Unique rows

-- what of a row is the member's, and what is not
abbrev pub own : ℕ → (Row → ℕ) → Row → ℕ
own member f r = cond (r.code == member) (f r) 0

abbrev pub others : ℕ → (Row → ℕ) → Row → ℕ
others member f r = cond (r.code == member) 0 (f r)

-- a group's shares are empty
abbrev pub Empty : (Row → ℕ) → List Row → Type 0
Empty f rows = sum (map f rows) ≡ 0

-- a group of shares pays n: each share is charged its exact proportion but for less than one, and an empty group pays nothing
pub record Pays (f : Row → ℕ) (before after : List Row) (n : ℕ) : Type 0 where
  pub charges : List ℕ
  pub each : length charges ≡ length before
  pub less : (k : ℕ) → k < length before → f (slice_index_or after k nobody) + slice_index charges k ≡ f (slice_index_or before k nobody)
  pub fair : 0 < sum (map f before) → Fair n (map f before) charges
  pub none : Empty f before → n ≡ 0

-- a use of the fund in the default of a member, by its answer and the rows before and after
pub record Used (member amount : ℕ) (a : Answer) (before after : List Row) : Type 0 where
  pub base : ℕ
  pub reserve : ℕ
  pub bases : ℕ
  pub reserves : ℕ
  pub answered : a ≡ Groups base reserve bases reserves
  pub whole : base + reserve + bases + reserves ≡ amount
  -- the rows are the same members' as before, the defaulter's among them
  pub same : map (λ r. r.code) after ≡ map (λ r. r.code) before
  pub has_row : is_some (place before member) ≡ true
  pub own_base : Pays (own member (λ r. r.base)) before after base
  pub own_reserve : Pays (own member (λ r. r.reserve)) before after reserve
  pub other_bases : Pays (others member (λ r. r.base)) before after bases
  pub other_reserves : Pays (others member (λ r. r.reserve)) before after reserves
  -- a group pays only if the earlier ones are empty afterwards
  pub second : 0 < reserve → Empty (own member (λ r. r.base)) after
  pub third : 0 < bases → Empty (own member (λ r. r.base)) after × Empty (own member (λ r. r.reserve)) after
  pub fourth : 0 < reserves → Empty (own member (λ r. r.base)) after × Empty (own member (λ r. r.reserve)) after × Empty (others member (λ r. r.base)) after

-- what holds after the calls h on a book opened over a house with the balances o
pub record Lawful (o : ℕ → Option ℕ) (h : List Turn) : Type 0 where
  -- the fund's account holds what the members have in the fund
  pub backed : (book_after o h).balances 0 ≡ Some (shares (book_after o h).rows)
  -- which is what was paid in less what was paid out
  pub flows : shares (book_after o h).rows + paid_out o h ≡ paid_in o h
  pub unique : Unique (book_after o h).rows
  -- each accepted use is charged to the defaulter first, and then to the others in proportion
  pub uses : (later earlier : List Turn) (n amount : ℕ) (ready : Bool) (a : Answer) → h ≡ later ++ turn (Use n amount) ready ∷ earlier →
      filed o earlier (turn (Use n amount) ready) ≡ Ok a →
      Used (defaulter o earlier) amount a (book_after o earlier).rows (book_after o (turn (Use n amount) ready ∷ earlier)).rows
  -- a member's base and the charges on it since its last accepted join or regulate are what it owed at that call
  pub bases : (member : ℕ) → is_some (place (book_after o h).rows member) ≡ true → (row_of (book_after o h).rows member).base + charges_since o member h ≡ owed o member h

-- a call with its answer, the house ready or not before and after it: whatever calls led to the book s, they and this one lead to the book t, the answer is the one that follows from them, and all that holds after every history holds
pub record GoesOn (k : Call) (a : Result Answer Refusal) (ready : Bool) (s : State) (ready_after : Bool) (t : State) : Type 0 where
  pub answer : (o : ℕ → Option ℕ) (h : List Turn) → Leads o h ready s → a ≡ filed o h (turn k ready)
  pub leads : (o : ℕ → Option ℕ) (h : List Turn) → Leads o h ready s → Leads o (turn k ready ∷ h) ready_after t
  pub lawful : (o : ℕ → Option ℕ) (h : List Turn) → Leads o h ready s → Lawful o (turn k ready ∷ h)
