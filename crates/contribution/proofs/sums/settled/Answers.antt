use Rattle.contribution.proofs.Bounds.{terms, settled_bound}
use Rattle.contribution.proofs.sums.settled.Goals as goal

pub returns-clause-bound : goal.returns-clause-bound
returns-clause-bound c = settled_bound c.args.security.now c.args.money c.args.quantity (terms c.args.security.now c.requires.priced) c.requires.money c.requires.quantity
