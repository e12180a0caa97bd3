use Rattle.std.proofs.Common.{◌≡◌, length}
use Rattle.houses.specs.Openings.{faulty}
use Rattle.houses.proofs.openings.has_bad_account.Given as goal

abbrev pub invariant-loop-opening : goal.invariant-loop-opening
invariant-loop-opening l = faulty l.rest ≡ faulty l.openings

abbrev pub decreases-loop-opening : goal.decreases-loop-opening
decreases-loop-opening l = length l.rest
