-- What the checks of the openings of a house tell of them.
use Rattle.std.proofs.Common.{◌≡◌, ℕ, zero, suc, ◌<◌, ◌≤◌, false, eqb, List, [], ◌∷◌, length, get_or, Ok, refl, inl, inr, arith}
use Rattle.std.proofs.lemmas.Bool.{both_ways, cases_Bool, eqb-true}
use Rattle.std.proofs.lemmas.Bool.Decides.{nat_tests}
use Rattle.houses.specs.declared.openings.Opening.{Opening}
use Rattle.houses.specs.Balances.{Sound}
use Rattle.houses.specs.Openings.{opened, faulty, table_verdict, list_verdict}

pub table_passed : (os : List Opening) → table_verdict os ≡ Ok tt → faulty os ≡ false
table_passed os e = grind (arith, nat_tests)

pub list_passed : (os : List Opening) (room : ℕ) → list_verdict os room ≡ Ok tt → (room ≤ 1024) × (length os ≤ room) × (faulty os ≡ false)
list_passed os room e = (grind (arith, nat_tests), grind (arith, nat_tests), grind (arith, nat_tests))

-- the first of faultless openings, and those behind it
first : (o : Opening) (os : List Opening) → faulty (o ∷ os) ≡ false → (o.account ≤ 9999) × (o.balance ≤ 1000000000000000) × (faulty os ≡ false)
first o os e = (grind (arith, nat_tests), grind (arith, nat_tests), grind (arith, nat_tests))

pub numbered : (os : List Opening) (i : ℕ) (d : Opening) → faulty os ≡ false → i < length os → (get_or os i d).account ≤ 9999
numbered [] i d e h = absurd (omega arith)
numbered (o ∷ os) zero d e h = (first o os e).0
numbered (o ∷ os) (suc i) d e h = numbered os i d (first o os e).2 (omega arith)

pub sound_opened : (os : List Opening) → faulty os ≡ false → Sound (opened os)
sound_opened [] e = record { numbers = λ k h. absurd (both_ways false refl h); amounts = λ k. omega arith }
sound_opened (o ∷ os) e =
    let p = first o os e in let rest = sound_opened os p.2 in
    record {
      numbers = λ k h. elim (cases_Bool (eqb k o.account)) [ inl u ↦ (let i = eqb-true k o.account u in omega (arith, p.0)) | inr u ↦ rest.numbers k (simp u at h) ];
      amounts = λ k. elim (cases_Bool (eqb k o.account)) [ inl u ↦ simp u p.1 | inr u ↦ simp u (rest.amounts k) ];
    }
