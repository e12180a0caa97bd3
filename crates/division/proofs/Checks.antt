-- Checks that are made one list after another.
use Rattle.std.proofs.Common.{◌≡◌, ℕ, zero, suc, ◌+◌, ◌<◌, ◌≤◌, true, false, cond, List, [], ◌∷◌, ◌++◌, length, get_or, drop, Ok, Err, sym, refl, ap, ◌∙◌, add-zero, arith}
use Rattle.std.proofs.lemmas.List.{at_drop_more, at_drop_all}
use Rattle.division.specs.declared.refusals.Refusal.{Refusal}
use Rattle.division.specs.Refusals.{Check, checked, clear, each_from}

-- where the first list finds nothing, the second decides
pub checked_on : {V : Type 0} (cs ds : List Check) (v : V) → clear cs ≡ Ok tt → checked (cs ++ ds) v ≡ checked ds v
checked_on [] ds v e = refl
checked_on (c ∷ cs) ds v e =
    elim c.0 as (λ b. cond b (Err c.1) (clear cs) ≡ Ok tt → cond b (Err c.1) (checked (cs ++ ds) v) ≡ checked ds v)
    [ true ↦ λ h. cc | false ↦ λ h. checked_on cs ds v h ] e

-- where the first list finds a fault, that refuses
pub checked_off : {V : Type 0} (cs ds : List Check) (v : V) (r : Refusal) → clear cs ≡ Err r → checked (cs ++ ds) v ≡ Err r
checked_off [] ds v r e = cc
checked_off (c ∷ cs) ds v r e =
    elim c.0 as (λ b. cond b (Err c.1) (clear cs) ≡ Err r → cond b (Err c.1) (checked (cs ++ ds) v) ≡ Err r)
    [ true ↦ λ h. (let s : c.1 ≡ r = cc in cc) | false ↦ λ h. checked_off cs ds v r h ] e

-- the value plays no part in what is refused
pub checked_refused : {V W : Type 0} (cs : List Check) (v : V) (w : W) (r : Refusal) → Err r ≡ checked cs v → Err r ≡ checked cs w
checked_refused [] v w r e = cc
checked_refused (c ∷ cs) v w r e =
    elim c.0 as (λ b. Err r ≡ cond b (Err c.1) (checked cs v) → Err r ≡ cond b (Err c.1) (checked cs w))
    [ true ↦ λ h. (let s : r ≡ c.1 = cc in cc) | false ↦ λ h. checked_refused cs v w r h ] e

-- and where nothing is refused, it is the answer
pub checked_made : {V W : Type 0} (cs : List Check) (v u : V) (w : W) → Ok u ≡ checked cs v → (u ≡ v) × (Ok w ≡ checked cs w)
checked_made [] v u w e = (let s : u ≡ v = cc in s, refl)
checked_made (c ∷ cs) v u w e =
    elim c.0 as (λ b. Ok u ≡ cond b (Err c.1) (checked cs v) → (u ≡ v) × (Ok w ≡ cond b (Err c.1) (checked cs w)))
    [ true ↦ λ h. cc | false ↦ λ h. checked_made cs v u w h ] e

-- a walk over xs that has come to i
module _ {X : Type 0} (f : ℕ → X → List Check) (xs : List X) (i : ℕ) where
  opened : (d : X) → i < length xs → each_from f i (drop i xs) ≡ f i (get_or xs i d) ++ each_from f (i + 1) (drop (i + 1) xs)
  opened d h = at_drop_more (each_from f i) xs i d h

  pub each_on : {V : Type 0} (d : X) (v w : V) → i < length xs → Ok w ≡ checked (f i (get_or xs i d)) v → clear (each_from f (i + 1) (drop (i + 1) xs)) ≡ clear (each_from f i (drop i xs))
  each_on d v w h e = sym (ap clear (opened d h) ∙ checked_on (f i (get_or xs i d)) _ tt (sym (checked_made (f i (get_or xs i d)) v w tt e).1))

  pub each_off : {V : Type 0} (d : X) (v : V) (r : Refusal) → i < length xs → Err r ≡ checked (f i (get_or xs i d)) v → Err r ≡ clear (each_from f i (drop i xs))
  each_off d v r h e = sym (ap clear (opened d h) ∙ checked_off (f i (get_or xs i d)) _ tt r (sym (checked_refused (f i (get_or xs i d)) v tt r e)))

  pub each_all : length xs ≤ i → Ok tt ≡ clear (each_from f i (drop i xs))
  each_all h = sym (ap clear (at_drop_all (each_from f i) xs i h))

-- where a list of checks finds nothing, neither does a part of it
pub clear_both : (cs ds : List Check) → Ok tt ≡ clear (cs ++ ds) → (Ok tt ≡ clear cs) × (Ok tt ≡ clear ds)
clear_both [] ds e = (refl, e)
clear_both (c ∷ cs) ds e =
    elim c.0 as (λ b. Ok tt ≡ cond b (Err c.1) (clear (cs ++ ds)) → (Ok tt ≡ cond b (Err c.1) (clear cs)) × (Ok tt ≡ clear ds))
    [ true ↦ λ h. cc | false ↦ λ h. clear_both cs ds h ] e

pub clear_at : {X : Type 0} (f : ℕ → X → List Check) (xs : List X) (i k : ℕ) (d : X) → Ok tt ≡ clear (each_from f i xs) → k < length xs → Ok tt ≡ clear (f (i + k) (get_or xs k d))
clear_at f [] i k d e h = absurd (omega arith)
clear_at f (x ∷ xs) i zero d e h = rw add-zero (clear_both (f i x) (each_from f (i + 1) xs) e).0
clear_at f (x ∷ xs) i (suc k) d e h =
    let n : i + suc k ≡ (i + 1) + k = omega arith in
    rw n (clear_at f xs (i + 1) k d (clear_both (f i x) (each_from f (i + 1) xs) e).1 (omega arith))

pub clear_first : (c : Check) (cs : List Check) → Ok tt ≡ clear (c ∷ cs) → (c.0 ≡ false) × (Ok tt ≡ clear cs)
clear_first c cs e =
    elim c.0 as (λ b. Ok tt ≡ cond b (Err c.1) (clear cs) → (b ≡ false) × (Ok tt ≡ clear cs))
    [ true ↦ λ h. cc | false ↦ λ h. (refl, h) ] e

-- checks of two layers, one after the other, the first with a value of its own
module _ {U V : Type 0} (cs ds : List Check) (k : U) (v : V) where
  pub first_refuses : (r : Refusal) → Err r ≡ checked cs k → Err r ≡ checked (cs ++ ds) v
  first_refuses r e = sym (checked_off cs ds v r (sym (checked_refused cs k (tt {0}) r e)))

  pub second_refuses : (u : U) (r : Refusal) → Ok u ≡ checked cs k → Err r ≡ clear ds → Err r ≡ checked (cs ++ ds) v
  second_refuses u r e f = checked_refused ds tt v r f ∙ sym (checked_on cs ds v (sym (checked_made cs k u (tt {0}) e).1))

  pub both_pass : (u : U) (w : Unit {0}) → Ok u ≡ checked cs k → Ok w ≡ clear ds → Ok v ≡ checked (cs ++ ds) v
  both_pass u w e f = (checked_made ds tt w v f).1 ∙ sym (checked_on cs ds v (sym (checked_made cs k u (tt {0}) e).1))
