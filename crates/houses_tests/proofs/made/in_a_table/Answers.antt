use Rattle.std.proofs.Common.{ap, ◌∙◌}
use Rattle.houses.specs.Balances.{told}
use Rattle.houses_tests.proofs.made.in_a_table.Goals as goal

pub returns : goal.returns
returns c = c.balance.ensures.told ∙ ap (λ b. told (b c.args.account)) c.make-house.ensures
