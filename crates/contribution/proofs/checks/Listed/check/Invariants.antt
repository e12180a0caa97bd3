use Rattle.std.proofs.Common.{◌≡◌, take, drop}
use Rattle.division.specs.Refusals.{clear, each_from}
use Rattle.contribution.specs.Checks.{security_checks, securities_checks}
use Rattle.contribution.proofs.checks.Listed.check.Given as goal

abbrev pub invariant-loop-i : goal.invariant-loop-i
invariant-loop-i l = clear (each_from (λ i s. security_checks (take i l.securities) i s) l.i (drop l.i l.securities)) ≡ clear (securities_checks l.securities)
