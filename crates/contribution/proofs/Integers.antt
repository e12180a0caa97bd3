-- Differences of natural numbers, as signed numbers and apart.
use Rattle.std.proofs.Common.{◌≡◌, ℕ, suc, ◌+◌, ◌-◌, ◌*◌, ◌≤◌, List, [], ◌∷◌, ℤ, pos, negsuc, ◌+ℤ◌, ◌-ℤ◌, ◌*ℤ◌, neg_ℤ, nat_abs, fold, sum_by, refl, ap, ◌∙◌, inl, inr, mul-le-mul_right, mul_comm, arith}
use native.Mathlib.Nat.{mul-sub}
use lib.IntN.{negsuc-*ℤ-pos, pos-*ℤ-pos}
use Rattle.std.proofs.lemmas.Int.{ints}
use Rattle.std.proofs.lemmas.Bool.{cases_lt}
use Rattle.contribution.specs.Steps.{distance, above_zero, sumℤ}

pub size : (b s : ℕ) → nat_abs (pos b -ℤ pos s) ≡ distance b s
size b s = omega (arith, ints)

pub cut : (u d : ℕ) → above_zero (pos u -ℤ pos d) ≡ u - d
cut u d = grind (arith, ints)

parts : (m n k : ℕ) → (m - n) * k ≡ m * k - n * k
parts m n k = omega (arith, mul-sub k m n, mul_comm k m, mul_comm k n, mul_comm k (m - n))

pub times : (b s p : ℕ) → (pos b -ℤ pos s) *ℤ pos p ≡ pos (b * p) -ℤ pos (s * p)
times b s p =
    elim (cases_lt b s) [
      | inl h ↦ (
          let e : suc (s - b - 1) * p ≡ s * p - b * p = ap (λ n. n * p) (omega arith) ∙ parts s b p in
          let l : b * p ≤ s * p = mul-le-mul_right p (omega arith) in
          let d : pos b -ℤ pos s ≡ negsuc (s - b - 1) = omega (arith, ints) in
          ap (λ z. z *ℤ pos p) d ∙ negsuc-*ℤ-pos (s - b - 1) p ∙ ap (λ n. neg_ℤ (pos n)) e ∙ omega (arith, ints))
      | inr h ↦ (
          let l : s * p ≤ b * p = mul-le-mul_right p h in
          let d : pos b -ℤ pos s ≡ pos (b - s) = omega (arith, ints) in
          ap (λ z. z *ℤ pos p) d ∙ pos-*ℤ-pos (b - s) p ∙ ap pos (parts b s p) ∙ omega (arith, ints))
    ]

-- a sum of differences is the difference of the sums
module _ {X : Type 0} (f : X → ℤ) (u d : X → ℕ) (e : (x : X) → f x ≡ pos (u x) -ℤ pos (d x)) where
  from : (a : ℤ) (m n : ℕ) (xs : List X) → a ≡ pos m -ℤ pos n → fold (λ a x. a +ℤ f x) a xs ≡ pos (fold (λ a x. a + u x) m xs) -ℤ pos (fold (λ a x. a + d x) n xs)
  from a m n [] h = h
  from a m n (x ∷ xs) h = let g = e x in from (a +ℤ f x) (m + u x) (n + d x) xs (omega (arith, ints))

  pub sums_apart : (xs : List X) → sumℤ f xs ≡ pos (sum_by u xs) -ℤ pos (sum_by d xs)
  sums_apart xs = from (pos 0) 0 0 xs refl
