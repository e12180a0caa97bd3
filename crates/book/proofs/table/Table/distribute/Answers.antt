use Rattle.std.proofs.Common.{◌≡◌, ◌-◌, take, sum, vec_items, vec_len, ap, ◌∙◌, arith, rules}
use Rattle.std.specs.Vec.{with_items}
use Rattle.std.proofs.lemmas.List.{with_items_is}
use Rattle.division.specs.Division.{parts_of}
use Rattle.book.specs.Rows.{shares, charges, credited}
use Rattle.book.specs.Groups.{weights}
use Rattle.book.proofs.Credits.{parts_fit, shares_spread, charges_credited}
use Rattle.book.proofs.table.Table.distribute.Goals as goal
use Rattle.book.proofs.table.Table.distribute.Goals.{After-len-count}

parts_are : (c : After-len-count) → take (c.len-count.result - 0) c.parts-parts.result ≡ parts_of c.args.amount (weights c.args.basis (vec_items c.args.self.now.rows))
parts_are c =
    let k : c.len-count.result - 0 ≡ vec_len c.args.self.now.rows = omega (arith, c.len-count.ensures) in
    ap (λ j. take j c.parts-parts.result) k ∙ c.parts-parts.ensures

pub credit-requires-clause-limit : goal.credit-requires-clause-limit
credit-requires-clause-limit c = grind (arith, ap sum (parts_are (goal.at.credit-requires-clause-limit c).After-len-count), parts_fit c.args.basis (vec_items c.args.self.now.rows) c.args.amount c.requires.some, c.requires.limit, c.deref_mut.ensures.value)

pub invariant_of-self : goal.invariant_of-self
invariant_of-self c =
    let rows = vec_items c.args.self.now.rows in
    let ps = parts_of c.args.amount (weights c.args.basis rows) in
    let e : vec_items (with_items c.args.self.now.rows c.credit.new.rows) ≡ credited rows ps =
    with_items_is c.args.self.now.rows c.credit.new.rows (search rules) ∙ c.credit.ensures ∙ ap (λ l. credited l (take (c.len-count.result - 0) c.parts-parts.result)) c.deref_mut.ensures.value ∙ ap (credited rows) (parts_are (goal.at.invariant_of-self c).After-len-count) in
    record {
      few = omega arith;
      room = omega arith;
      limit = omega (arith, ap shares e, shares_spread c.args.basis rows c.args.amount c.requires.some, c.requires.limit);
      charged = omega (arith, ap charges e, charges_credited rows ps, c.args.self.now.charged);
    }
