use Rattle.std.proofs.Common.{◌≡◌, ◌-◌, ◌≤◌, take, sum, vec_items, vec_len, ap, ◌∙◌, arith, rules}
use Rattle.std.specs.Vec.{with_items}
use Rattle.std.proofs.lemmas.List.{with_items_is}
use Rattle.division.specs.Division.{parts_of}
use Rattle.book.specs.declared.groups.Basis.TheVariants.{Group as Of}
use Rattle.book.specs.Rows.{shares, charges}
use Rattle.book.specs.Groups.{weights, has, charged_all, levied}
use Rattle.book.proofs.Levies.{group_parts, shares_levied, charges_levied, levied_none}
use Rattle.book.proofs.table.Table.levy.Goals as goal
use Rattle.book.proofs.table.Table.levy.Goals.{After-len-count}

parts_are : (c : After-len-count) → take (c.len-count.result - 0) c.parts-parts.result ≡ parts_of c.min-paid.result (weights (Of c.args.group) (vec_items c.args.self.now.rows))
parts_are c =
    let k : c.len-count.result - 0 ≡ vec_len c.args.self.now.rows = omega (arith, c.len-count.ensures) in
    ap (λ j. take j c.parts-parts.result) k ∙ c.parts-parts.ensures

-- no group pays more than it has, nor more than the rest
most : (c : After-len-count) → (c.min-paid.result ≤ has c.args.group (vec_items c.args.self.now.rows)) × (c.min-paid.result ≤ c.args.rest)
most c = (omega (arith, c.min-paid.ensures, c.total.ensures), omega (arith, c.min-paid.ensures))

pub charge-requires-clause-within : goal.charge-requires-clause-within
charge-requires-clause-within c =
    let a = (goal.at.charge-requires-clause-within c).After-len-count in
    let fit = group_parts c.args.group c.min-paid.result (vec_items c.args.self.now.rows) (most a).0 in
    rw (c.deref_mut.ensures.value, parts_are a) fit.2

pub charge-requires-clause-limit : goal.charge-requires-clause-limit
charge-requires-clause-limit c =
    let a = (goal.at.charge-requires-clause-limit c).After-len-count in
    grind (arith, ap sum (parts_are a), group_parts c.args.group c.min-paid.result (vec_items c.args.self.now.rows) (most a).0, most a, c.requires, c.deref_mut.ensures.value)

pub invariant_of-self : goal.invariant_of-self
invariant_of-self c =
    let a = (goal.at.invariant_of-self c).After-len-count in
    let rows = vec_items c.args.self.now.rows in
    let e : vec_items (with_items c.args.self.now.rows c.charge.new.rows) ≡ levied c.args.group c.min-paid.result rows =
    with_items_is c.args.self.now.rows c.charge.new.rows (search rules) ∙ c.charge.ensures ∙ ap (λ l. charged_all c.args.group l (take (c.len-count.result - 0) c.parts-parts.result)) c.deref_mut.ensures.value ∙ ap (charged_all c.args.group rows) (parts_are a) in
    record {
      few = omega arith;
      room = omega arith;
      limit = omega (arith, ap shares e, shares_levied c.args.group c.min-paid.result rows (most a).0, c.args.self.now.limit);
      charged = omega (arith, ap charges e, charges_levied c.args.group c.min-paid.result rows (most a).0, (most a).1, c.requires);
    }

pub returns-else-paid-gt0 : goal.returns-else-paid-gt0
returns-else-paid-gt0 c = grind (arith, levied_none c.args.group (vec_items c.args.self.now.rows))
