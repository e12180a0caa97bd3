use Rattle.std.proofs.Common.{◌≡◌, ◌+◌, ◌*◌, ◌^◌, ◌≤◌, length, drop}
use Rattle.contribution.specs.Positions.{at_risk, up, down, sum_pairs}
use Rattle.contribution.proofs.checks.Listed.summed.Given as goal

abbrev pub invariant-loop-security : goal.invariant-loop-security
invariant-loop-security l =
    let i = length l.yielded in
    (l.risk + sum_pairs at_risk (drop i l.self.securities.now) (drop i l.positions) ≡ sum_pairs at_risk l.self.securities.now l.positions) ×
    (l.up + sum_pairs up (drop i l.self.securities.now) (drop i l.positions) ≡ sum_pairs up l.self.securities.now l.positions) ×
    (l.down + sum_pairs down (drop i l.self.securities.now) (drop i l.positions) ≡ sum_pairs down l.self.securities.now l.positions) ×
    (l.risk ≤ i * 10 ^ 28) × (l.up ≤ i * 10 ^ 25) × (l.down ≤ i * 10 ^ 25)
