-- What a member owes and what its base is, from one call to the next.
use Rattle.std.proofs.Common.{◌≡◌, ℕ, ◌+◌, true, false, List, map, is_some, refl, arith}
use Rattle.std.proofs.lemmas.Bool.Decides.{nat_tests}
use Rattle.book.specs.declared.standings.Event.TheVariants as event
use Rattle.book.specs.Rows.{place, row_of, credited, required_as, based_as_required, standing_after, case_closed}
use Rattle.book.specs.States.{State, newcomer, updated_to}
use Rattle.book.specs.Calls.{Call, Join, Update, Regulate, Income, OpenCase, Use, Recover, Close, Leave, OtherTransfer, effect}
use Rattle.book.specs.Laws.{Unique, owes_by, pays_up, charge}
use Rattle.book.proofs.Membership.{has_changed, row_changed, row_unchanged, has_without, gone, row_without, has_more, row_more, row_new, has_each, row_each}
use Rattle.book.specs.Groups.{used_rows}
use Rattle.book.proofs.Defaults.{Charged, each_used}
use Rattle.book.proofs.Order.{Credited, each_credited, Closed, each_closed}
use Rattle.book.proofs.Accepted.{Tells}

-- an accepted call and a member m that has a row after it: x is what it owed before, if it had a row
pub record Due (m : ℕ) (k : Call) (s : State) : Type 0 where
  pub required : (x : ℕ) → (is_some (place s.rows m) ≡ true → (row_of s.rows m).required ≡ x) → (row_of (effect k s).rows m).required ≡ owes_by m k x
  pub settled : pays_up m k ≡ true → (row_of (effect k s).rows m).base ≡ (row_of (effect k s).rows m).required
  pub kept : pays_up m k ≡ false → (is_some (place s.rows m) ≡ true) × ((row_of (effect k s).rows m).base + charge k (row_of s.rows m).base (row_of (effect k s).rows m).base ≡ (row_of s.rows m).base)

module _ (m : ℕ) (s : State) (unique : Unique s.rows) where
  -- rows that change neither base nor what is required
  due_credited : (ps : List ℕ) → is_some (place (credited s.rows ps) m) ≡ true → (is_some (place s.rows m) ≡ true) × Credited (row_of s.rows m) (row_of (credited s.rows ps) m)
  due_credited ps h =
      let e = each_credited s.rows ps in
      grind (arith, has_each Credited (λ r t x. x.code) s.rows (credited s.rows ps) e m, row_each Credited (λ r t x. x.code) s.rows (credited s.rows ps) e m)

  pub due : (k : Call) → Tells k s → is_some (place (effect k s).rows m) ≡ true → Due m k s
  due (Join code) t h = grind (arith, nat_tests, has_more (newcomer code) s.rows m, row_more (newcomer code) s.rows m, row_new (newcomer code) s.rows)
  due (Update code ss ts) t h =
      let f = required_as (updated_to s code ss ts) in
      grind (arith, nat_tests, has_changed f (λ r. refl) code s.rows m, row_changed f (λ r. refl) code s.rows, row_unchanged f (λ r. refl) code s.rows m)
  due (Regulate code) t h = grind (arith, nat_tests, has_changed based_as_required (λ r. refl) code s.rows m, row_changed based_as_required (λ r. refl) code s.rows, row_unchanged based_as_required (λ r. refl) code s.rows m)
  due (Income n) t h = grind (arith, due_credited _ h)
  due (OpenCase code) t h =
      let f = standing_after event.OpenCase in
      grind (arith, nat_tests, has_changed f (λ r. refl) code s.rows m, row_changed f (λ r. refl) code s.rows, row_unchanged f (λ r. refl) code s.rows m)
  due (Use k n) t h =
      let e = each_used s.rows n in
      grind (arith, has_each Charged (λ r t x. x.code) s.rows (used_rows s.rows n) e m, row_each Charged (λ r t x. x.code) s.rows (used_rows s.rows n) e m)
  due (Recover k n) t h = grind (arith, due_credited _ h)
  due (Close n) t h =
      let e = each_closed s.rows in
      grind (arith, has_each Closed (λ r t x. x.code) s.rows (map case_closed s.rows) e m, row_each Closed (λ r t x. x.code) s.rows (map case_closed s.rows) e m)
  due (Leave code) t h = grind (arith, nat_tests, gone code s.rows, has_without code s.rows m, row_without code s.rows m)
  due (OtherTransfer from to n) t h = grind arith
