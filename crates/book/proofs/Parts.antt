-- Rows that are changed one after the other, each by its part.
use Rattle.std.proofs.Common.{◌≡◌, ℕ, zero, suc, ◌+◌, ◌<◌, List, [], ◌∷◌, map, length, get_or, take, set, sum_by, refl, ap, ◌∙◌, arith}
use Rattle.std.proofs.lemmas.List.Sums.{sum_by-cons}
use Rattle.book.specs.declared.rows.Row.{Row}
use Rattle.book.specs.Rows.{nobody, by_parts, credit, credited}

module _ (f : Row → ℕ → Row) where
  pub length_by_parts : (rows : List Row) (ps : List ℕ) → length (by_parts f rows ps) ≡ length rows
  length_by_parts rows [] = refl
  length_by_parts [] (p ∷ ps) = refl
  length_by_parts (r ∷ rows) (p ∷ ps) = ap suc (length_by_parts rows ps)

  same_there : (rows : List Row) (ps : List ℕ) (i : ℕ) (d : Row) → get_or (by_parts f rows (take i ps)) i d ≡ get_or rows i d
  same_there rows ps zero d = refl
  same_there (r ∷ rows) (p ∷ ps) (suc i) d = same_there rows ps i d
  same_there rows ps i d = grind arith

  set_there : (rows : List Row) (ps : List ℕ) (i : ℕ) (d : Row) → i < length rows → i < length ps → set (by_parts f rows (take i ps)) i (f (get_or rows i d) (get_or ps i 0)) ≡ by_parts f rows (take (suc i) ps)
  set_there (r ∷ rows) (p ∷ ps) zero d h k = refl
  set_there (r ∷ rows) (p ∷ ps) (suc i) d h k = grind (arith, set_there rows ps i d)
  set_there rows ps i d h k = absurd (grind arith)

  -- a walk over the parts that has come to i: the row there is as it was, and is then written with its part
  module _ (old new : List Row) (ps : List ℕ) (i : ℕ) (here : new ≡ by_parts f old (take i ps)) where
    pub as_it_was : (d : Row) → get_or new i d ≡ get_or old i d
    as_it_was d = ap (λ l. get_or l i d) here ∙ same_there old ps i d

    pub one_part_more : (d w : Row) → i < length old → i < length ps → w ≡ f (get_or new i d) (get_or ps i 0) → set new i w ≡ by_parts f old (take (i + 1) ps)
    one_part_more d w h k e = grind (arith, as_it_was d, here, set_there old ps i d h k)

  -- parts of 0 that change nothing
  pub no_change : ((r : Row) → f r 0 ≡ r) → (rows : List Row) (ps : List ℕ) → ((k : ℕ) → get_or ps k 0 ≡ 0) → by_parts f rows ps ≡ rows
  no_change same rows [] none = refl
  no_change same [] (p ∷ ps) none = refl
  no_change same (r ∷ rows) (p ∷ ps) none = let first : p ≡ 0 = none 0 in rw (first, same r, no_change same rows ps (λ k. none (suc k)))

  -- what no part changes of a row
  pub kept_by_parts : {X : Type 0} (m : Row → X) → ((r : Row) (p : ℕ) → m (f r p) ≡ m r) → (rows : List Row) (ps : List ℕ) → map m (by_parts f rows ps) ≡ map m rows
  kept_by_parts m same rows [] = refl
  kept_by_parts m same [] (p ∷ ps) = refl
  kept_by_parts m same (r ∷ rows) (p ∷ ps) = rw (same r p, kept_by_parts m same rows ps)

  -- what a part takes from the measure of its row and adds to it, the parts take from the sum and add to it
  pub sum_by_parts : (m : Row → ℕ) (less more : ℕ → ℕ) (rows : List Row) (ps : List ℕ) → length ps ≡ length rows
      → ((k : ℕ) → k < length rows → m (f (get_or rows k nobody) (get_or ps k 0)) + less (get_or ps k 0) ≡ m (get_or rows k nobody) + more (get_or ps k 0))
      → sum_by m (by_parts f rows ps) + sum_by less ps ≡ sum_by m rows + sum_by more ps
  sum_by_parts m less more [] [] e each = refl
  sum_by_parts m less more (r ∷ rows) (p ∷ ps) e each = omega (arith, each 0 (omega arith), sum_by_parts m less more rows ps (omega arith) (λ k h. each (suc k) (omega arith)), sum_by-cons m (f r p) (by_parts f rows ps), sum_by-cons m r rows, sum_by-cons less p ps, sum_by-cons more p ps)
  sum_by_parts m less more rows ps e each = absurd (omega arith)

pub none_in_sum : {X : Type 0} (xs : List X) → sum_by (λ _. 0) xs ≡ 0
none_in_sum [] = refl
none_in_sum (x ∷ xs) = none_in_sum xs

-- parts added to the reserves are rows changed each by its part
pub credited_by_parts : (rows : List Row) (ps : List ℕ) → credited rows ps ≡ by_parts credit rows ps
credited_by_parts rows ps = refl
