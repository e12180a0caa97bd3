use Rattle.std.proofs.Common.{◌≡◌, Bool, ltb, List, vec_items, sym, ap, ◌∙◌, subst, rules, arith}
use Rattle.std.proofs.lemmas.Bool.{ltb-true}
use Rattle.houses.specs.declared.entries.Entry.{Entry}
use Rattle.houses.specs.Balances.{Sound, Same, moved, money}
use Rattle.houses.specs.Entries.{Covered, booked, carried}
use Rattle.houses.proofs.Moved.{Makable, passed, refused, money_moved, sound_moved, from_same, to_same}
use Rattle.houses.proofs.Booked.{booked_push, covered_push, in_order_push}
use Rattle.houses.proofs.list_calls.ListHouseHouse.transfer.Goals as goal
use Rattle.houses.proofs.list_calls.ListHouseHouse.transfer.Goals.{After-judge, After-push_reserved}

abbrev es : After-judge → List Entry
es c = vec_items c.args.self.now.entries

abbrev free : After-judge → Bool
free c = ltb c.len.result c.args.self.now.room

payer : (c : After-judge) → booked (es c) c.args.from ≡ c.balance_from-payer.result
payer c = sym (c.balance_from-payer.ensures ∙ ap (λ xs. booked xs c.args.from) c.deref.ensures.value)

receiver : (c : After-judge) → booked (es c) c.args.to ≡ c.balance_from-receiver.result
receiver c = sym (c.balance_from-receiver.ensures ∙ ap (λ xs. booked xs c.args.to) c.deref-2.ensures.value)

pub returns-in_err-judge-clause-verdict : goal.returns-in_err-judge-clause-verdict
returns-in_err-judge-clause-verdict c =
    let a = (goal.at.returns-in_err-judge-clause-verdict c).After-judge in
    let e = refused (free a) (booked (es a)) c.args.from c.args.to c.args.amount _ _ (c.in_err-judge.ensures (booked (es a)) (payer a) (receiver a)) in
    search rules

abbrev at : After-push_reserved → After-judge
at c = (goal.at.invariant_of-self c).After-judge

can : (c : After-push_reserved) → Makable (free (at c)) (booked (es (at c))) c.args.from c.args.to c.args.amount
can c = let a = at c in (passed (free a) (booked (es a)) c.args.from c.args.to c.args.amount c.in_ok-judge.field-0 (c.in_ok-judge.ensures (booked (es a)) (payer a) (receiver a))).0

-- the balances with the new entry
booked_now : (c : After-push_reserved) → booked (vec_items c.push_reserved.new.self) ≡ moved (booked (es (at c))) c.args.from c.args.to c.args.amount
booked_now c = ap booked c.push_reserved.ensures.items ∙ booked_push c.args.from c.args.to c.args.amount _ (es (at c)) c.args.self.now.covered (can c)

pub invariant_of-self : goal.invariant_of-self
invariant_of-self c =
    let f = c.args.from in let t = c.args.to in let n = c.args.amount in
    let xs = es (at c) in
    let now = c.push_reserved.ensures.items in
    let less = ltb-true c.len.result c.args.self.now.room (can c).takes in
    record {
      few = c.args.self.now.few;
      within = omega (arith, c.push_reserved.ensures.len);
      reserved = omega (arith, c.push_reserved.ensures.capacity, c.args.self.now.reserved);
      covered = subst Covered (sym now) (covered_push f t n _ xs c.args.self.now.covered (can c));
      sound = subst Sound (sym (booked_now c)) (sound_moved _ (booked xs) f t n c.args.self.now.sound (can c));
      ordered = subst (λ ys. Same (booked ys) (carried ys)) (sym now) (to_same _ _ (in_order_push f t n _ xs c.args.self.now.covered (can c) (from_same _ _ c.args.self.now.ordered)));
    }

pub returns-clause-balances : goal.returns-clause-balances
returns-clause-balances c = booked_now (goal.at.returns-clause-balances c).After-push_reserved

pub returns-clause-whole : goal.returns-clause-whole
returns-clause-whole c =
    let p = (goal.at.returns-clause-whole c).After-push_reserved in
    ap money (booked_now p) ∙ money_moved _ (booked (es (at p))) c.args.from c.args.to c.args.amount c.args.self.now.sound (can p)
