-- The first line of a sheet, and the items one after the other.
use Rattle.std.proofs.Common.{◌≡◌, ℕ, zero, suc, ◌+◌, ◌<◌, ◌≤◌, eqb, List, [], ◌∷◌, length, take, drop, sym, refl, ap, ◌∙◌, ⊎_elim, arith}
use Rattle.std.specs.List.{prefix_len}
use Rattle.std.proofs.lemmas.List.{drop-drop, length-drop}
use Rattle.std.proofs.lemmas.Bool.{cases_eq, eq-eqb, ne_eqb, lt-ltb, cond-true, cond-false}
use Rattle.sheet.specs.Lines.{read, text_byte, first, rest, items_in, items}

-- s is cut into t and u before its first byte 10
module _ (s t u : List ℕ) (n : ℕ) (e : n ≡ prefix_len text_byte s) (a : t ≡ take n s) (b : u ≡ drop n s) where
  -- and v stands behind that byte
  pub finished : (x : ℕ) (v : List ℕ) → u ≡ x ∷ v → (read t ≡ first s) × (v ≡ rest s)
  finished x v d =
      let k : prefix_len text_byte s < length s = omega (arith, length-drop n s, ap length (sym b ∙ d)) in
      (ap read (a ∙ ap (λ m. take m s) e) ∙ sym (cond-true _ _ _ (lt-ltb _ _ k)), ap (drop 1) (sym d ∙ b) ∙ drop-drop 1 n s ∙ ap (λ m. drop (m + 1) s) e)

-- without bytes there is no line, however many are allowed
none : (k : ℕ) (s : List ℕ) → length s ≡ 0 → items_in k s ≡ []
none zero s e = refl
none (suc k) s e = cond-true (eqb (length s) 0) [] _ (eq-eqb _ 0 e)

-- with bytes there is a first line
some : (k : ℕ) (s : List ℕ) → (length s ≡ 0 → ⊥) → items_in (suc k) s ≡ first s ∷ items_in k (rest s)
some k s n = cond-false (eqb (length s) 0) [] _ (ne_eqb _ 0 n)

-- any bound that suffices gives the same items
enough : (k m : ℕ) (s : List ℕ) → length s ≤ k → length s ≤ m → items_in k s ≡ items_in m s
enough zero m s h g = sym (none m s (omega arith))
enough (suc k) zero s h g = none (suc k) s (omega arith)
enough (suc k) (suc m) s h g =
    ⊎_elim (λ (z : length s ≡ 0). none (suc k) s z ∙ sym (none (suc m) s z))
    (λ (n : length s ≡ 0 → ⊥).
    let f = length-drop (prefix_len text_byte s + 1) s in
    some k s n ∙ ap (λ l. first s ∷ l) (enough k m (rest s) (omega (arith, f)) (omega (arith, f))) ∙ sym (some m s n))
    (cases_eq (length s) 0)

-- nothing is left
pub items_none : (s : List ℕ) → length s ≡ 0 → items s ≡ []
items_none s e = none (length s) s e

-- the first line, and then those behind it
pub items_step : (s : List ℕ) → 0 < length s → items s ≡ first s ∷ items (rest s)
items_step s h =
    let f = length-drop (prefix_len text_byte s + 1) s in
    enough (length s) (suc (length s)) s (omega arith) (omega arith) ∙ some (length s) s (λ e. omega arith) ∙
    ap (λ l. first s ∷ l) (enough (length s) (length (rest s)) (rest s) (omega (arith, f)) (omega arith))
