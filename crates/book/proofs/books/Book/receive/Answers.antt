use Rattle.std.proofs.Common.{vec_items, ap, ◌∙◌}
use Rattle.division.specs.Division.{parts_of}
use Rattle.book.specs.Rows.{charges}
use Rattle.book.specs.Groups.{weights}
use Rattle.book.proofs.Credits.{charges_credited}
use Rattle.book.proofs.books.Book.receive.Goals as goal

pub invariant_of-self-2 : goal.invariant_of-self-2
invariant_of-self-2 g c =
    let rows = vec_items c.args.self.now.table.rows in
    record { tally = ap charges c.distribute.ensures ∙ charges_credited rows (parts_of c.args.amount (weights c.args.basis rows)) ∙ c.args.self.now.tally }
