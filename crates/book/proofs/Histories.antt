-- What holds after a history of calls holds after one call more.
use Rattle.std.proofs.Common.{◌≡◌, IsErrAnd, ℕ, ◌+◌, Bool, true, false, cond, ◌&&◌, List, [], ◌∷◌, is_some, is_ok, Ok, Err, Option, Result, sym, refl, ap, ◌∙◌, arith}
use Rattle.std.proofs.lemmas.Result.{err_from_is_err_and}
use Rattle.std.proofs.lemmas.Bool.Decides.{nat_tests}
use Rattle.division.specs.declared.refusals.Refusal.{Refusal}
use Rattle.division.specs.Refusals.{answer, clear, checked, after}
use Rattle.division.proofs.Checks.{checked_made, checked_refused}
use Rattle.book.specs.Rows.{shares, place, row_of}
use Rattle.book.specs.States.{State, opening_checks}
use Rattle.book.specs.Calls.{Call, Answer, Use, checks, value, effect, said, moves, entered}
use Rattle.book.specs.Histories.{Turn, turn, book_after, filed, Kept}
use Rattle.book.specs.Laws.{came_in, went_out, if_accepted, accused, owes_by, pays_up, charge, paid_in, paid_out, defaulter, owes, owed, charges_since, Lawful, GoesOn}
use Rattle.book.proofs.Money.{Backed, flow}
use Rattle.book.proofs.Order.{Ordered, order}
use Rattle.book.proofs.Dues.{due}
use Rattle.book.proofs.Uses.{used_by}
use Rattle.book.proofs.Accepted.{tells}

-- a book s with the last defaulter d, what was paid in and out, and of each member what it owes, what it owed when it last paid up, and the charges on its base since
pub record Holds (s : State) (d got gone : ℕ) (owes owed charges : ℕ → ℕ) : Type 0 where
  pub ordered : Ordered d s
  pub backed : Backed s
  pub flows : shares s.rows + gone ≡ got
  pub required : (m : ℕ) → is_some (place s.rows m) ≡ true → (row_of s.rows m).required ≡ owes m
  pub bases : (m : ℕ) → is_some (place s.rows m) ≡ true → (row_of s.rows m).base + charges m ≡ owed m

-- one call more, with the answer r
module _ (k : Call) (ready : Bool) (s : State) (d got gone : ℕ) (owes owed charges : ℕ → ℕ) (was : Holds s d got gone owes owed charges) where
  abbrev Then : Result Answer Refusal → Type 0
  Then r =
      Holds (after r (effect k s) s) (if_accepted r (λ _. accused k d) d) (got + if_accepted r (came_in k) 0) (gone + if_accepted r (went_out k) 0)
      (λ m. if_accepted r (λ _. owes_by m k (owes m)) (owes m))
      (λ m. cond (is_ok r && pays_up m k) (if_accepted r (λ _. owes_by m k (owes m)) (owes m)) (owed m))
      (λ m. cond (is_ok r && pays_up m k) 0 (charges m + charge k (row_of s.rows m).base (row_of (after r (effect k s) s).rows m).base))

  one_more : (r : Result Answer Refusal) → r ≡ said k ready s → Then r
  one_more (Err x) e = grind (arith, was.bases, was.required)
  one_more (Ok a) e =
      let made = checked_made (checks k ready s) (value k s) a (tt {0}) e in
      let t = tells k ready s made.1 in
      grind (arith, made, order d s was.ordered k t, flow s was.backed was.ordered.tally k t, λ (m : ℕ). due m s was.ordered.unique k t, was.required, was.bases)

held : (o : ℕ → Option ℕ) (h : List Turn) → clear (opening_checks o) ≡ Ok tt → Holds (book_after o h) (defaulter o h) (paid_in o h) (paid_out o h) (λ m. owes o m h) (λ m. owed o m h) (λ m. charges_since o m h)
held o [] e = grind (arith, nat_tests)
held o (t ∷ h) e = one_more t.call t.ready (book_after o h) (defaulter o h) (paid_in o h) (paid_out o h) (λ m. owes o m h) (λ m. owed o m h) (λ m. charges_since o m h) (held o h e) (filed o h t) refl

pub lawful : (o : ℕ → Option ℕ) (h : List Turn) → clear (opening_checks o) ≡ Ok tt → Lawful o h
lawful o h e =
    let now = held o h e in
    record {
      backed = now.backed;
      flows = now.flows;
      unique = now.ordered.unique;
      uses = λ later earlier n amount ready a at accepted. (
          let s = book_after o earlier in
          let then = (held o earlier e).ordered in
          let made = checked_made (checks (Use n amount) ready s) (value (Use n amount) s) a (tt {0}) (sym accepted) in
          let t = tells (Use n amount) ready s made.1 in
          rw (made.0, accepted) (used_by (defaulter o earlier) amount s.rows (grind arith) (grind arith) t.1));
      bases = now.bases;
    }

go_on : (k : Call) (a : Result Answer Refusal) (ready ready-after : Bool) (s t : State) → a ≡ said k ready s → t ≡ after a (effect k s) s → Kept (turn k ready) a s ready-after → GoesOn k a ready s ready-after t
go_on k a ready ready-after s t answer state kept =
    record {
      answer = λ o h l. grind (arith, answer, l.book);
      leads = λ o h l. record { opening = l.opening; book = grind (arith, answer, state, l.book); readiness = grind (arith, answer, l.book, kept, l.readiness) };
      lawful = λ o h l. lawful o (turn k ready ∷ h) l.opening;
    }

-- the exit of a `?` that hands back the fault x tells what the fault does
pub told : {V E : Type 0} (tell : E → Refusal) (r : Result V E) {x : E} → IsErrAnd r (λ y. y ≡ x) → {a : Result V Refusal} → Err (tell x) ≡ a → answer tell r ≡ a
told tell r back e = grind (arith, err_from_is_err_and r back)

-- a call that is refused, and one that is accepted, go on as their own contracts say
module _ (k : Call) {ready ready-after : Bool} {s t : State} where
  pub refused_goes_on : {x : Refusal} → Err x ≡ clear (checks k ready s) → t ≡ s → ready-after ≡ ready → GoesOn k (Err x) ready s ready-after t
  refused_goes_on {x} answer state kept = go_on k (Err x) ready ready-after s t (checked_refused (checks k ready s) (tt {0}) (value k s) x answer) state kept

  pub accepted_goes_on : {V : Type 0} (f : V → Answer) {u v : V} → Ok u ≡ checked (checks k ready s) v → f v ≡ value k s → t ≡ effect k s → (moves k s ≡ false → ready-after ≡ ready) → GoesOn k (Ok (f u)) ready s ready-after t
  accepted_goes_on f {u} {v} answer filed state kept =
      let made = checked_made (checks k ready s) v u (value k s) answer in
      go_on k (Ok (f u)) ready ready-after s t (ap (λ x. Ok (f x)) made.0 ∙ ap Ok filed ∙ made.1) state kept

  pub stops : {V E : Type 0} (tell : E → Refusal) (r : Result V E) {x : E} → IsErrAnd r (λ y. y ≡ x) → (f : V → Answer) → Err (tell x) ≡ clear (checks k ready s) → t ≡ s → ready-after ≡ ready → GoesOn k (entered f (answer tell r)) ready s ready-after t
  stops tell r back f e state kept = rw (told tell r back refl) (refused_goes_on e state kept)

  pub stops_with : {V E : Type 0} (tell : E → Refusal) (r : Result V E) {x : E} → IsErrAnd r (λ y. y ≡ x) → (f : V → Answer) (v : V) → Err (tell x) ≡ checked (checks k ready s) v → t ≡ s → ready-after ≡ ready → GoesOn k (entered f (answer tell r)) ready s ready-after t
  stops_with tell r {x} back f v e state kept = stops tell r back f (checked_refused (checks k ready s) v (tt {0}) (tell x) e) state kept
