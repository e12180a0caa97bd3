-- Two houses with the same balances can be told apart by their readiness alone.
use Rattle.std.proofs.Common.{◌≡◌, ℕ, Bool, true, false, cond, ◌||◌, eqb, ltb, ◌⊎◌, List, Ok, Err, Option, Result, sym, refl, ap, ◌∙◌, subst, inl, inr, arith}
use Rattle.std.proofs.lemmas.Bool.{cases_Bool}
use Rattle.division.specs.declared.refusals.Refusal.{Refusal}
use Rattle.division.specs.Refusals.{answer, after}
use Rattle.houses.specs.declared.faults.Fault.{Fault}
use Rattle.houses.specs.declared.faults.Fault.TheVariants.{TooMany, BadAccount, Amount, SameAccount, NotReady, UnknownAccount, PayerShort, ReceiverFull}
use Rattle.houses.specs.declared.transfers.Transfer.{Transfer}
use Rattle.houses.specs.Refusals.{by_house, refusal}
use Rattle.houses.specs.Balances.{verdict, moved}
use Rattle.houses.specs.Comparing.{State, due, Asked, Alike, none, more}

-- the fault that has the number
fault : ℕ → Fault
fault n =
    cond (eqb n 19) TooMany (cond (eqb n 26) BadAccount (cond (eqb n 12) Amount (cond (eqb n 22) SameAccount
    (cond (eqb n 51) NotReady (cond (eqb n 52) UnknownAccount (cond (eqb n 53) PayerShort ReceiverFull))))))

fault_is : (x : Fault) → fault (refusal x).number ≡ x
unfolding fault
fault_is TooMany = refl
fault_is BadAccount = refl
fault_is Amount = refl
fault_is SameAccount = refl
fault_is NotReady = refl
fault_is UnknownAccount = refl
fault_is PayerShort = refl
fault_is ReceiverFull = refl

-- answers that are told alike are alike
same_answers : (q r : Result (Unit {0}) Fault) → answer refusal q ≡ answer refusal r → q ≡ r
same_answers (Ok u) (Ok v) e = refl
same_answers (Ok u) (Err y) e = let z : ◌≡◌ {A = ℕ} 0 1 = cc in absurd (omega arith)
same_answers (Err x) (Ok v) e = let z : ◌≡◌ {A = ℕ} 0 1 = cc in absurd (omega arith)
same_answers (Err x) (Err y) e =
    let f : refusal x ≡ refusal y = cc in
    ap Err (sym (fault_is x) ∙ ap (λ o. fault o.number) f ∙ fault_is y)

-- readiness matters only where it is refused as such
unready : (p : Bool) (b : ℕ → Option ℕ) (f t a : ℕ) → (verdict true b f t a ≡ verdict p b f t a) ⊎ (verdict p b f t a ≡ Err (by_house 51))
unready true b f t a = inl refl
unready false b f t a =
    elim (cases_Bool (eqb a 0 || ltb 4000000000 a))
    [ inl e ↦ inl (simp e) | inr e ↦ elim (cases_Bool (eqb f t)) [ inl h ↦ inl (simp (e, h)) | inr h ↦ inr (simp (e, h)) ] ]

-- a house that refused is as it was
stays : (s : State) (x : Transfer) (r : Result (Unit {0}) Fault) (s' : State) (e : Refusal) → Asked s x r s' → due s x ≡ Err e → due s' x ≡ Err e
stays s x (Ok u) s' e k h = let f = k.told in let z : ◌≡◌ {A = ℕ} 0 1 = cc in absurd (omega arith)
stays s x (Err y) s' e k h =
    ap (λ p. verdict p s'.balances x.from x.to x.amount) k.still ∙ ap (λ b. verdict s.ready b x.from x.to x.amount) k.left ∙ h

pub apart_unready : (u v s' t' : State) (x : Transfer) (q r : Result (Unit {0}) Fault) → Asked u x q s' → Asked v x r t' → (q ≡ r → ⊥) → u.balances ≡ v.balances
    → (due s' x ≡ Err (by_house 51)) ⊎ (due t' x ≡ Err (by_house 51))
apart_unready u v s' t' x q r j k ne e =
    elim (unready u.ready u.balances x.from x.to x.amount) [
      | inr h ↦ inl (stays u x q s' (by_house 51) j h)
      | inl h ↦ elim (unready v.ready v.balances x.from x.to x.amount) [
        | inr i ↦ inr (stays v x r t' (by_house 51) k i)
        | inl i ↦ absurd (ne (same_answers q r (j.told ∙ sym h ∙ ap (λ b. verdict true b x.from x.to x.amount) e ∙ i ∙ sym k.told)))
      ]
    ]

pub same_alike : {s t s' t' : State} {xs : List Transfer} → Alike s t xs s' t' → s.balances ≡ t.balances → s'.balances ≡ t'.balances
same_alike none e = e
same_alike (more x r s'' t'' before j k) e =
    j.left ∙ ap (λ b. after r (moved b x.from x.to x.amount) b) (same_alike before e) ∙ sym k.left

pub relisted : {s t s' t' : State} {xs ys : List Transfer} → xs ≡ ys → Alike s t xs s' t' → Alike s t ys s' t'
relisted {s} {t} {s'} {t'} e a = subst (λ zs. Alike s t zs s' t') e a

pub reanswered : {s s' : State} {x : Transfer} {q r : Result (Unit {0}) Fault} → q ≡ r → Asked s x q s' → Asked s x r s'
reanswered {s} {s'} {x} e a = subst (λ p. Asked s x p s') e a
