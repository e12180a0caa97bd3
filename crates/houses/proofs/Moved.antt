-- A transfer that can be made keeps the limits of a house and the money in it.
use Rattle.std.proofs.Common.{◌≡◌, ℕ, zero, suc, ◌+◌, ◌-◌, ◌≤◌, Bool, true, false, cond, eqb, ltb, is_some, Some, None, Ok, Err, Option, Result, sym, refl, ap, ◌∙◌, subst, inl, inr, arith}
use mathlib.Core.Path.{fun_ext}
use Rattle.std.proofs.lemmas.Bool.{cases_Bool, eqb-true, eqb-false, both_ways}
use Rattle.std.proofs.lemmas.Bool.Decides.{nat_tests}
use Rattle.division.specs.declared.refusals.Refusal.{Refusal}
use Rattle.division.specs.Refusals.{answer, checked, after}
use Rattle.houses.specs.declared.faults.Fault.{Fault}
use Rattle.houses.specs.Refusals.{refusal}
use Rattle.houses.specs.Balances.{held, Sound, Same, checks, verdict, moved, below, money}
use Rattle.division.proofs.Checks.{checked_refused, checked_made}

module _ (ready : Bool) (b : ℕ → Option ℕ) (f t a : ℕ) where
  -- what holds of a transfer that can be made
  pub record Makable : Type 0 where
    pub made : Ok tt ≡ verdict ready b f t a
    pub apart : f ≡ t → ⊥
    pub takes : ready ≡ true
    pub payer : is_some (b f) ≡ true
    pub receiver : is_some (b t) ≡ true
    pub enough : a ≤ held (b f)
    pub room : held (b t) + a ≤ 1000000000000000

  pub makable : Ok tt ≡ verdict ready b f t a → Makable
  makable e = record { made = e; apart = grind (arith, nat_tests); takes = grind (arith, nat_tests); payer = grind (arith, nat_tests); receiver = grind (arith, nat_tests); enough = grind (arith, nat_tests); room = grind (arith, nat_tests) }

  -- what the judge's answer tells of a transfer that it lets pass
  pub passed : (n : ℕ × ℕ) → Ok n ≡ checked (checks ready b f t a) (held (b f) - a, held (b t) + a) → Makable × (n ≡ (held (b f) - a, held (b t) + a))
  passed n e = let p = checked_made (checks ready b f t a) (held (b f) - a, held (b t) + a) n tt e in (makable p.1, p.0)

  -- and of one that it refuses
  pub refused : (n : ℕ × ℕ) (x : Refusal) → Err x ≡ checked (checks ready b f t a) n → Err x ≡ verdict ready b f t a
  refused n x e = checked_refused (checks ready b f t a) n tt x e

  -- the money below n, with what the payer lost and the receiver got if they are below n
  below_moved : (f ≡ t → ⊥) → a ≤ held (b f) → (n : ℕ) → below n (moved b f t a) + cond (ltb f n) a 0 ≡ below n b + cond (ltb t n) a 0
  unfolding below
  below_moved ne h zero = grind (arith, nat_tests)
  below_moved ne h (suc n) =
      let before = below_moved ne h n in
      elim (cases_Bool (eqb n f)) [
        | inl e ↦ (let i : n ≡ f = eqb-true n f e in let g : held (moved b f t a n) ≡ held (b f) - a = simp e in let s : held (b n) ≡ held (b f) = ap (λ k. held (b k)) i in grind (arith, nat_tests))
        | inr e ↦ elim (cases_Bool (eqb n t)) [
          | inl e2 ↦ (let i : n ≡ t = eqb-true n t e2 in let g : held (moved b f t a n) ≡ held (b t) + a = simp (e, e2) in let s : held (b n) ≡ held (b t) = ap (λ k. held (b k)) i in let ne2 = eqb-false n f e in grind (arith, nat_tests))
          | inr e2 ↦ (let g : held (moved b f t a n) ≡ held (b n) = simp (e, e2) in let ne1 = eqb-false n f e in let ne2 = eqb-false n t e2 in grind (arith, nat_tests))
        ]
      ]

  pub money_moved : Sound b → Makable → money (moved b f t a) ≡ money b
  money_moved sound m =
      let kept = below_moved m.apart m.enough 10000 in
      let low : f ≤ 9999 = sound.numbers f m.payer in
      let low2 : t ≤ 9999 = sound.numbers t m.receiver in
      grind (arith, nat_tests)

  pub sound_moved : Sound b → Makable → Sound (moved b f t a)
  sound_moved sound m =
      record {
        numbers = λ k h. elim (cases_Bool (eqb k f)) [
          | inl u ↦ (let i = eqb-true k f u in let l = sound.numbers f m.payer in omega arith)
          | inr u ↦ elim (cases_Bool (eqb k t)) [
            | inl v ↦ (let i = eqb-true k t v in let l = sound.numbers t m.receiver in omega arith)
            | inr v ↦ sound.numbers k (simp (u, v) at h)
          ]
        ];
        amounts = λ k. elim (cases_Bool (eqb k f)) [
          | inl u ↦ simp u (omega (arith, sound.amounts f))
          | inr u ↦ elim (cases_Bool (eqb k t)) [ inl v ↦ simp (u, v) m.room | inr v ↦ simp (u, v) (sound.amounts k) ]
        ];
      }

-- the two for any answer, as the house that gives it states them
module _ (ready : Bool) (b c : ℕ → Option ℕ) (f t a : ℕ) (sound : Sound b) where
  pub money_kept : (r : Result (Unit {0}) Fault) → answer refusal r ≡ verdict ready b f t a → c ≡ after r (moved b f t a) b → money c ≡ money b
  money_kept (Ok v) e s = ap money s ∙ money_moved ready b f t a sound (makable ready b f t a e)
  money_kept (Err x) e s = ap money s

  pub sound_kept : (r : Result (Unit {0}) Fault) → answer refusal r ≡ verdict ready b f t a → c ≡ after r (moved b f t a) b → Sound c
  sound_kept (Ok v) e s = subst Sound (sym s) (sound_moved ready b f t a sound (makable ready b f t a e))
  sound_kept (Err x) e s = subst Sound (sym s) sound

-- balances are the same where accounts and money are
pub from_same : (b c : ℕ → Option ℕ) → Same b c → b ≡ c
from_same b c s = fun_ext (λ k. go (b k) (c k) (s.accounts k) (s.amounts k))
  where
    go : (o p : Option ℕ) → is_some o ≡ is_some p → held o ≡ held p → o ≡ p
    go None None e h = refl
    go None (Some n) e h = absurd (both_ways false refl e)
    go (Some m) None e h = absurd (both_ways false refl (sym e))
    go (Some m) (Some n) e h = ap Some h

pub to_same : (b c : ℕ → Option ℕ) → b ≡ c → Same b c
to_same b c e = record { accounts = λ k. ap (λ x. is_some (x k)) e; amounts = λ k. ap (λ x. held (x k)) e }
