-- What an accepted call tells of the book before it.
use Rattle.std.proofs.Common.{◌≡◌, ◌<◌, ◌≤◌, Bool, true, false, eqb, [], ◌∷◌, ◌++◌, is_some, Ok, sum, arith}
use Rattle.std.proofs.lemmas.Bool.Decides.{nat_tests}
use Rattle.division.specs.Refusals.{clear}
use Rattle.division.proofs.Checks.{clear_both, clear_first}
use Rattle.contribution.specs.Contribution as contribution
use Rattle.contribution.specs.Steps.{minimum}
use Rattle.houses.specs.Balances as house
use Rattle.book.specs.declared.groups.Basis.TheVariants.{Base}
use Rattle.book.specs.declared.standings.Event.TheVariants as event
use Rattle.book.specs.Groups.{weights}
use Rattle.book.specs.Standings.{next}
use Rattle.book.specs.Rows.{share, shares, place, row_of}
use Rattle.book.specs.States.{State, admission, no_row, forbidden, regulation, settle_checks, missing, excess, departure, is_open, earning, usage, unrecovered, recovery, bad_code}
use Rattle.book.specs.Calls.{Call, Join, Update, Regulate, Income, OpenCase, Use, Recover, Close, Leave, OtherTransfer, checks}

abbrev pub Tells : Call → State → Type 0
Tells (Join code) s = (eqb 0 code ≡ false) × (is_some (place s.rows code) ≡ false)
Tells (Update code ss ts) s = is_some (place s.rows code) ≡ true
Tells (Regulate code) s = (eqb 0 code ≡ false) × (is_some (place s.rows code) ≡ true)
Tells (Income n) s = 0 < sum (weights Base s.rows)
Tells (OpenCase code) s = (is_some (place s.rows code) ≡ true) × (is_some s.case ≡ false) × (is_some (next (row_of s.rows code).standing event.OpenCase) ≡ true)
Tells (Use k n) s = (is_open s.case k ≡ true) × (n ≤ shares s.rows)
Tells (Recover k n) s = (is_open s.case k ≡ true) × (0 < n) × (n ≤ unrecovered s.case)
Tells (Close k) s = Unit {0}
Tells (Leave code) s = (eqb 0 code ≡ false) × (is_some (place s.rows code) ≡ true) × (is_some s.case ≡ false)
Tells (OtherTransfer from to n) s = (eqb 0 from ≡ false) × (eqb 0 to ≡ false)

pub tells : (k : Call) (ready : Bool) (s : State) → Ok tt ≡ clear (checks k ready s) → Tells k s
tells (Join code) ready s e = grind (arith, nat_tests, clear_both (admission s code) (house.checks ready s.balances code 0 minimum) e)
tells (Update code ss ts) ready s e =
    let rest = no_row s code ∷ forbidden event.Update s code ∷ [] in
    grind (arith, nat_tests, clear_both (contribution.all_checks ss ts) rest (clear_first (bad_code code) (contribution.all_checks ss ts ++ rest) e).1)
tells (Regulate code) ready s e = grind (arith, nat_tests, clear_both (regulation s code) (settle_checks ready s.balances code (missing s code) (excess s code)) e)
tells (Income n) ready s e = grind (arith, nat_tests, clear_both (earning s n) (house.checks ready s.balances 1 0 n) e)
tells (OpenCase code) ready s e = grind (arith, nat_tests)
tells (Use k n) ready s e = grind (arith, nat_tests, clear_both (usage s k n) (house.checks ready s.balances 0 1 n) e)
tells (Recover k n) ready s e = grind (arith, nat_tests, clear_both (recovery s k n) (house.checks ready s.balances 1 0 n) e)
tells (Close k) ready s e = tt
tells (Leave code) ready s e = grind (arith, nat_tests, clear_both (departure s code) (settle_checks ready s.balances code 0 (share (row_of s.rows code))) e)
tells (OtherTransfer from to n) ready s e = grind (arith, nat_tests)
