use Rattle.std.proofs.Common.{arith}
use Rattle.std.proofs.lemmas.List.{take_all}
use Rattle.book.specs.Rows.{nobody}
use Rattle.book.specs.Groups.{weight}
use Rattle.book.proofs.Credits.{weighed}
use Rattle.book.proofs.sharing.weigh.Goals as goal

pub loop-i-preserved : goal.loop-i-preserved
loop-i-preserved c = weighed (weight c.args.basis) c.loop-i.list c.args.rows.now c.loop-i.i _ nobody (omega (arith, c.requires)) c.loop-i-test.true c.weight.ensures c.loop-i.invariant

pub returns : goal.returns
returns c = grind (arith, c.loop-i.invariant, take_all c.loop-i.i c.args.rows.now c.loop-i-test.false, take_all c.loop-i.i c.loop-i.list)
