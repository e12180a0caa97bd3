use Rattle.std.proofs.Common.{vec_items, ◌∙◌, arith}
use Rattle.book.proofs.Places.{row_there}
use Rattle.book.specs.Rows.{Stands}
use Rattle.book.proofs.table.Table.find.Goals as goal

pub index-requires : goal.index-requires
index-requires c = omega (arith, (rw c.as_slice.ensures.value at c.in_ok-i.ensures.stands).inside, c.args.self.now.rows.ok.0)

pub returns : goal.returns
returns c =
    let at : Stands (vec_items c.args.self.now.rows) c.args.code c.in_ok-i.i = rw (← c.as_slice.ensures.value) c.in_ok-i.ensures.stands in
    (at, c.index.ensures ∙ row_there (vec_items c.args.self.now.rows) c.args.code c.in_ok-i.i c.index.result.now at)
