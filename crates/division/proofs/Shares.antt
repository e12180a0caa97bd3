-- The parts of a division are fair.
use Rattle.std.proofs.Common.{◌≡◌, ℕ, zero, suc, ◌+◌, ◌-◌, ◌*◌, ◌/◌, ◌<◌, ◌≤◌, List, map, length, get_or, take, sum, sym, ap, ◌∙◌, add-zero, mul-le-mul_right, mod-lt, mul-le-mul_left, mul-zero, mul-add, mul-div_cancel, add-one, arith}
use native.Mathlib.Nat.{zero-div, div-add-mod, mul-sub, lt_of_mul-lt-mul_left, sub_self}
use Rattle.std.specs.List.{range_with_len}
use Rattle.std.proofs.lemmas.List.{take_all}
use Rattle.std.proofs.lemmas.List.Sums.{sum_by_more}
use Rattle.std.proofs.lemmas.List.FromFn.{sum_by-map-range_with_len_more, get_or-map-range_with_len}
use Rattle.division.specs.Division.{due, part, parts_of}
use Rattle.division.specs.Fairness.{Fair}

-- what is due grows with the weights
grows : (a s w t : ℕ) → 0 < t → a * s / t ≤ a * (s + w) / t
grows a s w t h = grind (arith, mul-add a s w)

-- the parts of the first n things sum to what is due at their weights
upto : (a : ℕ) (ws : List ℕ) → 0 < sum ws → (n : ℕ) → n ≤ length ws → sum (map (part a ws) (range_with_len 0 n)) ≡ due a ws n
upto a ws h zero l = sym (ap (λ x. x / sum ws) (mul-zero a) ∙ zero-div (sum ws))
upto a ws h (suc n) l =
    let before : sum (map (part a ws) (range_with_len 0 n)) ≡ due a ws n = upto a ws h n (omega arith) in
    let step : sum (map (part a ws) (range_with_len 0 (n + 1))) ≡ sum (map (part a ws) (range_with_len 0 n)) + part a ws n = sum_by-map-range_with_len_more (λ x. x) (part a ws) 0 n n (omega arith) in
    let less : n < length ws = omega arith in
    let rises : due a ws n ≤ due a ws (n + 1) = rw (sum_by_more (λ x. x) ws n 0 less) (grows a (sum (take n ws)) (get_or ws n 0) (sum ws) h) in
    let now : sum (map (part a ws) (range_with_len 0 (n + 1))) ≡ due a ws (n + 1) = omega (arith, before, step, rises) in
    rw add-one at now

-- one thing's part: t the weights in sum, s those before it, w its own
abbrev one : ℕ → ℕ → ℕ → ℕ → ℕ
one a s w t = a * (s + w) / t - a * s / t

-- with both remainders, the part times t is a * w but for less than t either way
near : (a s w t : ℕ) → 0 < t → (t * one a s w t < a * w + t) × (a * w < t * one a s w t + t)
near a s w t h =
    let high = div-add-mod (a * (s + w)) t in
    let low = div-add-mod (a * s) t in
    let high-rest = mod-lt (a * (s + w)) h in
    let low-rest = mod-lt (a * s) h in
    let apart = mul-sub t (a * (s + w) / t) (a * s / t) in
    let sums = mul-add a s w in
    let rises = mul-le-mul_left t (grows a s w t h) in
    (omega arith, omega arith)

capped : (a s w t : ℕ) → 0 < t → a ≤ t → one a s w t ≤ w
capped a s w t h l =
    let less : t * one a s w t < t * (w + 1) = omega (arith, (near a s w t h).0, mul-le-mul_right w l, mul-add t w 1) in
    let under : one a s w t < w + 1 = lt_of_mul-lt-mul_left t less in
    omega arith

at_place : (a : ℕ) (ws : List ℕ) (k : ℕ) → k < length ws → get_or (parts_of a ws) k 0 ≡ one a (sum (take k ws)) (get_or ws k 0) (sum ws)
at_place a ws k l = get_or-map-range_with_len (part a ws) 0 (length ws) k k 0 l (omega arith) ∙ rw (sum_by_more (λ x. x) ws k 0 l)

pub fair : (a : ℕ) (ws : List ℕ) → 0 < sum ws → Fair a ws (parts_of a ws)
fair a ws h =
    record {
      whole = upto a ws h (length ws) (omega arith) ∙ ap (λ l. a * sum l / sum ws) (take_all (length ws) ws (omega arith)) ∙ mul-div_cancel a h;
      below = λ k l. rw (at_place a ws k l) (near a (sum (take k ws)) (get_or ws k 0) (sum ws) h).0;
      above = λ k l. rw (at_place a ws k l) (near a (sum (take k ws)) (get_or ws k 0) (sum ws) h).1;
      none = λ k l e. at_place a ws k l ∙ rw (e, add-zero) (sub_self (a * sum (take k ws) / sum ws));
      within = λ small k l. rw (at_place a ws k l) (capped a (sum (take k ws)) (get_or ws k 0) (sum ws) h small);
    }
