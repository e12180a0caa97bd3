use Rattle.std.proofs.Common.{map, arith}
use Rattle.division.proofs.Shares.{fair}
use Rattle.division.proofs.dividing.divide.Goals as goal

pub returns-clause-fair : goal.returns-clause-fair
returns-clause-fair g c = rw c.fill.ensures (fair c.args.amount (map g.T.Weighted.weight c.args.things.now) (omega arith))
