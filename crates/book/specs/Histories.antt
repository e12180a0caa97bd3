-- The history of a book: the calls since its opening, the latest first, and the book that they lead to.
use Rattle.std.specs.Prelude.{◌≡◌, ℕ, Bool, false, List, [], ◌∷◌, Ok, Err, Option, Result}
use Rattle.division.specs.declared.refusals.Refusal.{Refusal}
use Rattle.division.specs.Refusals.{clear}
use Rattle.book.specs.States.{State, opening_checks, opened_over}
use Rattle.book.specs.Calls.{Call, Answer, said, next, moves}

-- a call, and whether the house was ready before it
pub record Turn : Type 0 where
  pub call : Call
  pub ready : Bool

abbrev pub turn : Call → Bool → Turn
turn k ready = record { call = k; ready = ready }

-- the book, opened over a house with the balances o, after the calls
abbrev pub book_after : (ℕ → Option ℕ) → List Turn → State
book_after o [] = opened_over o
book_after o (t ∷ h) = next t.call t.ready (book_after o h)

-- the answer or the refusal of a call that comes after those
abbrev pub filed : (ℕ → Option ℕ) → List Turn → Turn → Result Answer Refusal
filed o h t = said t.call t.ready (book_after o h)

-- what a call and its answer leave of the readiness: only money that moves may alter it
abbrev pub Kept : Turn → Result Answer Refusal → State → Bool → Type 0
Kept t (Ok a) s ready = moves t.call s ≡ false → ready ≡ t.ready
Kept t (Err e) s ready = ready ≡ t.ready

-- whether a house can have been ready as the turns say, and now
abbrev pub Readied : (ℕ → Option ℕ) → List Turn → Bool → Type 0
Readied o [] ready = Unit {0}
Readied o (t ∷ h) ready = Readied o h t.ready × Kept t (filed o h t) (book_after o h) ready

-- the calls h on a book opened over a house with the balances o led to the book s, with the house ready or not
pub record Leads (o : ℕ → Option ℕ) (h : List Turn) (ready : Bool) (s : State) : Type 0 where
  pub opening : clear (opening_checks o) ≡ Ok tt
  pub book : s ≡ book_after o h
  pub readiness : Readied o h ready
