-- What a write into a table leaves.
use Rattle.std.proofs.Common.{◌≡◌, ℕ, zero, suc, ◌+◌, ◌-◌, ◌<◌, true, false, eqb, List, [], ◌∷◌, length, get_or, set, None, Option, sym, refl, inl, inr, arith}
use mathlib.Core.Path.{fun_ext}
use Rattle.std.proofs.lemmas.Bool.{cases_Bool, eqb-true, ne_eqb}
use Rattle.houses.specs.declared.table.Account.{Account}
use Rattle.houses.specs.Balances.{held, rewritten, moved}
use Rattle.houses.specs.Table.{kept}

-- a write at the first place that has the number
at_first : (xs : List Account) (i k v q : ℕ) (d : Account) → i < length xs → ((j : ℕ) → j < i → (get_or xs j d).number ≡ k → ⊥) → (get_or xs i d).number ≡ k
    → kept (set xs i (record { number = (get_or xs i d).number; balance = v })) q ≡ rewritten (kept xs) k v q
at_first [] i k v q d h none e = absurd (omega arith)
at_first (a ∷ xs) zero k v q d h none e =
    elim (cases_Bool (eqb q k))
    [ inl u ↦ (let w : eqb q a.number ≡ true = rw e u in simp (u, w)) | inr u ↦ (let w : eqb q a.number ≡ false = rw e u in simp (u, w)) ]
at_first (a ∷ xs) (suc i) k v q d h none e =
    let rest = at_first xs i k v q d (omega arith) (λ j l. none (suc j) (omega arith)) e in
    elim (cases_Bool (eqb q a.number))
    [ inl u ↦ (let w : eqb q k ≡ false = ne_eqb q k (λ f. none 0 (omega arith) (let g = eqb-true q a.number u in cc)) in simp (u, w)) | inr u ↦ simp u rest ]

pub write_first : (xs : List Account) (i k v : ℕ) (d : Account) → i < length xs → ((j : ℕ) → j < i → (get_or xs j d).number ≡ k → ⊥) → (get_or xs i d).number ≡ k
    → kept (set xs i (record { number = (get_or xs i d).number; balance = v })) ≡ rewritten (kept xs) k v
write_first xs i k v d h none e = fun_ext (λ q. at_first xs i k v q d h none e)

-- no place has the number
pub unkept : (xs : List Account) (k : ℕ) (d : Account) → ((j : ℕ) → j < length xs → (get_or xs j d).number ≡ k → ⊥) → kept xs k ≡ None
unkept [] k d none = refl
unkept (a ∷ xs) k d none =
    let w : eqb k a.number ≡ false = ne_eqb k a.number (λ f. none 0 (omega arith) (sym f)) in
    simp w (unkept xs k d (λ j l. none (suc j) (omega arith)))

-- both accounts of a transfer written
pub both : (b : ℕ → Option ℕ) (f t a : ℕ) → (f ≡ t → ⊥) → rewritten (rewritten b f (held (b f) - a)) t (held (b t) + a) ≡ moved b f t a
both b f t a apart = fun_ext (λ k. elim (cases_Bool (eqb k f))
    [ inl u ↦ (let w : eqb k t ≡ false = ne_eqb k t (λ e. apart (let g = eqb-true k f u in cc)) in simp (u, w)) | inr u ↦ simp u ])
