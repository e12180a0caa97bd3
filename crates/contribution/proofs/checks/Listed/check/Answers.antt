use Rattle.std.proofs.Common.{take, ◌∙◌}
use Rattle.division.proofs.Checks.{each_all}
use Rattle.contribution.specs.Checks.{security_checks}
use Rattle.contribution.proofs.Assessing.{all_priced, distinct}
use Rattle.contribution.proofs.checks.Listed.check.Goals as goal

pub invariant_of-result : goal.invariant_of-result
invariant_of-result c =
    let ss = c.args.securities.now in
    let passed = each_all (λ i s. security_checks (take i ss) i s) ss c.loop-i.i c.loop-i-test.false ∙ c.loop-i.invariant in
    record { few = c.requires; in_range = all_priced ss passed; distinct = distinct ss passed }
