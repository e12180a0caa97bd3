use Rattle.std.proofs.Common.{map, ap, ◌∙◌}
use Rattle.std.proofs.lemmas.List.{take_all}
use Rattle.houses.specs.Lists.{first_told}
use Rattle.houses.proofs.Opened.{numbered}
use Rattle.houses.proofs.Lists.{told_of}
use Rattle.houses.proofs.keeping.filled.Goals as goal

pub keep-requires : goal.keep-requires
keep-requires g c = numbered c.args.openings.now c.loop-opening.opening-index _ c.requires.faultless c.loop-opening-test.true

pub returns-clause-balances : goal.returns-clause-balances
returns-clause-balances g c =
    ap (first_told g.T.Tells.tells) (c.loop-opening.invariant.items ∙ ap (map g.T.Keeps.kept_of) (take_all c.loop-opening.opening-index c.args.openings.now c.loop-opening-test.false))
    ∙ told_of g.T.Tells.tells g.T.Keeps.kept_of g.met.T.Keeps.same c.args.openings.now
