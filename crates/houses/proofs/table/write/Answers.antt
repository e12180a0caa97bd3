use Rattle.std.proofs.Common.{◌≡◌, length, eqb, ltb, get_or, Some, None, is_some, sym, ap, ◌∙◌, inl, inr, arith, rules}
use Rattle.std.specs.List.{position, position_or_len}
use Rattle.std.proofs.lemmas.Bool.{both_ways, cases_Bool, eqb-true, eqb-false, ltb-false}
use Rattle.std.proofs.lemmas.Iterator.{YieldsList-from_slice}
use Rattle.std.proofs.lemmas.Iterator.Search.{position_from_yields_List}
use Rattle.std.proofs.lemmas.List.Quantifiers.{position-Some}
use Rattle.std.proofs.lemmas.List.Sums.{fails_before_first}
use Rattle.houses.specs.declared.table.Account.{Account}
use Rattle.houses.proofs.Tables.{write_first, unkept}
use Rattle.houses.proofs.table.write.Goals as goal

abbrev none : Account
none = record { number = 0; balance = 0 }

pub returns-in-Some : goal.returns-in-Some
returns-in-Some c =
    let test = λ (a : Account). eqb a.number c.args.number in
    let xs = c.args.accounts.now in
    let e : c.position.result ≡ position test xs = position_from_yields_List test _ _ _ c.position.ensures.ran (YieldsList-from_slice xs cc) (λ x b q k. search rules) in
    let p = position-Some test xs c.in-Some.i none (sym e ∙ c.in-Some.is) in
    write_first xs c.in-Some.i c.args.number c.args.balance none p.0 (λ j h n. eqb-false (get_or xs j none).number c.args.number (p.2 j h) n) (eqb-true _ _ p.1)

pub returns-in_default : goal.returns-in_default
returns-in_default c =
    let test = λ (a : Account). eqb a.number c.args.number in
    let xs = c.args.accounts.now in
    let e : c.position.result ≡ position test xs = position_from_yields_List test _ _ _ c.position.ensures.ran (YieldsList-from_slice xs cc) (λ x b q k. search rules) in
    elim (cases_Bool (ltb (position_or_len test xs) (length xs))) [
      | inl l ↦ (let f : Some (position_or_len test xs) ≡ None = sym (simp l at e) ∙ c.in_default.is in cc)
      | inr l ↦ absurd (both_ways _ (ap is_some (unkept xs c.args.number none (λ j h n. eqb-false (get_or xs j none).number c.args.number (fails_before_first test xs j none (omega (arith, ltb-false _ _ l))) n))) c.requires)
    ]
