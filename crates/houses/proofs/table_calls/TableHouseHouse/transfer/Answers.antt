use Rattle.std.proofs.Common.{◌≡◌, ℕ, true, vec_items, Option, ap, ◌∙◌, rules}
use Rattle.std.specs.Vec.{with_items}
use Rattle.std.proofs.lemmas.List.{with_items_is}
use Rattle.division.specs.Refusals.{after}
use Rattle.houses.specs.Balances.{moved}
use Rattle.houses.specs.Table.{kept}
use Rattle.houses.proofs.Moved.{money_kept, sound_kept}
use Rattle.houses.proofs.table_calls.TableHouseHouse.transfer.Goals as goal
use Rattle.houses.proofs.table_calls.TableHouseHouse.transfer.Goals.{After-carry}

abbrev before : After-carry → ℕ → Option ℕ
before c = kept (vec_items c.args.self.now.accounts)

carried : (c : After-carry) → kept (vec_items (with_items c.args.self.now.accounts c.carry.new.accounts)) ≡ after c.carry.result (moved (before c) c.args.from c.args.to c.args.amount) (before c)
carried c =
    ap kept (with_items_is c.args.self.now.accounts c.carry.new.accounts (search rules)) ∙ c.carry.ensures.balances
    ∙ ap (λ xs. after c.carry.result (moved (kept xs) c.args.from c.args.to c.args.amount) (kept xs)) c.deref_mut.ensures.value

pub invariant_of-self : goal.invariant_of-self
invariant_of-self c =
    let a = (goal.at.invariant_of-self c).After-carry in
    record { sound = sound_kept true (before a) _ c.args.from c.args.to c.args.amount c.args.self.now.sound c.carry.result (search rules) (carried a) }

pub returns-clause-whole : goal.returns-clause-whole
returns-clause-whole c =
    let a = (goal.at.returns-clause-whole c).After-carry in
    money_kept true (before a) _ c.args.from c.args.to c.args.amount c.args.self.now.sound c.carry.result (search rules) (carried a)
