use Rattle.std.proofs.Common.{◌≡◌, map, vec_items, ap, ◌∙◌, arith, rules}
use Rattle.std.specs.Vec.{with_items}
use Rattle.std.proofs.lemmas.List.{with_items_is}
use Rattle.book.specs.Rows.{shares, charges, case_closed}
use Rattle.book.proofs.Shares.{same_closed, none_charged}
use Rattle.book.proofs.table.Table.close.Goals as goal

pub invariant_of-self : goal.invariant_of-self
invariant_of-self c =
    let rows = vec_items c.args.self.now.rows in
    let e : vec_items (with_items c.args.self.now.rows c.close.new.rows) ≡ map case_closed rows = with_items_is c.args.self.now.rows c.close.new.rows (search rules) ∙ c.close.ensures ∙ ap (map case_closed) c.deref_mut.ensures.value in
    grind (arith, ap shares e, same_closed rows, ap charges e, none_charged rows, c.args.self.now.limit)
