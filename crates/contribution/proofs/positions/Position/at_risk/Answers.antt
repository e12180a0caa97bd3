use Rattle.std.proofs.Common.{arith}
use Rattle.contribution.proofs.Bounds.{terms, at_risk_bound}
use Rattle.contribution.proofs.positions.Position.at_risk.Goals as goal

pub overflow_mul-result-3 : goal.overflow_mul-result-3
overflow_mul-result-3 c = rw c.abs_diff.ensures (omega (arith, at_risk_bound c.args.security.now c.args.self c.requires.few (terms c.args.security.now c.requires.priced)))

pub returns-clause-bound : goal.returns-clause-bound
returns-clause-bound c = rw c.abs_diff.ensures (at_risk_bound c.args.security.now c.args.self c.requires.few (terms c.args.security.now c.requires.priced))
