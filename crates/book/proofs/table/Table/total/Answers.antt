use Rattle.std.proofs.Common.{vec_items}
use Rattle.book.proofs.Levies.{weights_within}
use Rattle.book.proofs.table.Table.total.Goals as goal

pub total-requires : goal.total-requires
total-requires c = rw c.as_slice.ensures.value (weights_within c.args.basis (vec_items c.args.self.now.rows) 4000000000 c.args.self.now.limit c.args.self.now.charged)
