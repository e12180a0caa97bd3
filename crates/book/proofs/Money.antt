-- What an accepted call does to the shares and to the fund's account.
use Rattle.std.proofs.Common.{◌≡◌, ◌+◌, Some, refl, arith}
use Rattle.std.proofs.lemmas.List.Sums.{sum_by_push, sum-map}
use Rattle.std.proofs.lemmas.Bool.Decides.{nat_tests}
use Rattle.book.specs.declared.rows.Row.{Row}
use Rattle.book.specs.declared.groups.Basis.TheVariants.{Base, Charged}
use Rattle.book.specs.declared.standings.Event.TheVariants as event
use Rattle.book.specs.Rows.{share, shares, charges, required_as, based_as_required, standing_after}
use Rattle.book.specs.States.{State, newcomer, updated_to, charged_of}
use Rattle.book.specs.Calls.{Call, Join, Update, Regulate, Income, OpenCase, Use, Recover, Close, Leave, OtherTransfer, value, effect}
use Rattle.book.specs.Laws.{came_in, went_out}
use Rattle.book.proofs.Shares.{same_closed}
use Rattle.book.proofs.Credits.{shares_spread}
use Rattle.book.proofs.Levies.{groups_are_all, use_sums}
use Rattle.book.proofs.Membership.{sum_changed, sum_without}
use Rattle.book.proofs.Accepted.{Tells}

-- the fund's account holds what the members have in the fund
abbrev pub Backed : State → Type 0
Backed s = s.balances 0 ≡ Some (shares s.rows)

-- the rows' charged figures sum to what the case charged
abbrev pub Tallied : State → Type 0
Tallied s = charges s.rows ≡ charged_of s.case

-- what a call pays in and out is what the shares grow and fall by, and the fund's account with them
pub record Flow (k : Call) (s : State) : Type 0 where
  pub flow : shares (effect k s).rows + went_out k (value k s) ≡ shares s.rows + came_in k (value k s)
  pub backed : Backed (effect k s)

module _ (s : State) (backed : Backed s) (tally : Tallied s) where
  pub flow : (k : Call) → Tells k s → Flow k s
  flow (Join code) t = grind (arith, nat_tests, sum_by_push share s.rows (newcomer code))
  flow (Update code ss ts) t = grind (arith, sum_changed (required_as (updated_to s code ss ts)) (λ r. refl) code share s.rows t)
  flow (Regulate code) t = grind (arith, nat_tests, sum_changed based_as_required (λ r. refl) code share s.rows)
  flow (Income n) t = grind (arith, nat_tests, shares_spread Base s.rows n t)
  flow (OpenCase code) t = grind (arith, sum_changed (standing_after event.OpenCase) (λ r. refl) code share s.rows t.0)
  flow (Use k n) t = grind (arith, nat_tests, use_sums s.rows n, groups_are_all s.rows)
  flow (Recover k n) t = grind (arith, nat_tests, shares_spread Charged s.rows n, sum-map (λ (r : Row). r.charged) s.rows)
  flow (Close n) t = grind (arith, same_closed s.rows)
  flow (Leave code) t = grind (arith, nat_tests, sum_without code share s.rows)
  flow (OtherTransfer from to n) t = grind (arith, nat_tests)
