use Rattle.std.proofs.Common.{◌≡◌, ℕ, ◌*◌, ◌/◌, ◌<◌, map, get_or, take, sum}
use Rattle.division.specs.Division.{part}
use Rattle.division.proofs.dividing.fill.Given as goal

abbrev pub invariant-loop-i : goal.invariant-loop-i
invariant-loop-i g l =
    let ws = map g.T.Weighted.weight l.things in
    (l.weights ≡ sum (take l.i ws)) × (l.paid ≡ l.amount * l.weights / l.all) × ((k : ℕ) → k < l.i → get_or l.parts k 0 ≡ part l.amount ws k)
