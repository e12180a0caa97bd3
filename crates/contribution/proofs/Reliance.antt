-- What an accepted assessment keeps to.
use Rattle.std.proofs.Common.{◌≡◌, ℕ, ◌+◌, ◌-◌, ◌*◌, ◌<◌, ◌≤◌, Bool, true, false, not, ◌||◌, ltb, leb, List, [], ◌∷◌, ◌++◌, length, pos, ◌-ℤ◌, ◌*ℤ◌, nat_abs, is_some, Ok, sum_by, sym, refl, ap, ◌∙◌, inl, inr, arith}
use mathlib.Core.Path.{fun_ext}
use Rattle.std.specs.List.Sorted.{IsPermutation}
use Rattle.std.specs.List.{AllByRecursion as All}
use Rattle.std.proofs.lemmas.Int.{ints}
use Rattle.std.proofs.lemmas.List.Sorted.{length_permutation, sum_by-IsPermutation}
use Rattle.std.proofs.ByRecursion.{all_shuffled}
use Rattle.std.proofs.lemmas.List.Sums.{sum_by-cons}
use Rattle.std.proofs.lemmas.Bool.{cases_Bool, cond-true, cond-false, ltb-false, leb-false}
use Rattle.division.specs.Refusals.{clear, each_from}
use Rattle.division.proofs.Checks.{checked_made, checked_on, clear_first, clear_both}
use Rattle.contribution.specs.declared.terms.Security.{Security}
use Rattle.contribution.specs.declared.terms.Side.TheVariants.{Bought, Sold}
use Rattle.contribution.specs.declared.terms.Trade.{Trade}
use Rattle.contribution.specs.declared.positions.Position.{Position}
use Rattle.contribution.specs.declared.assessments.Assessment.{Assessment}
use Rattle.contribution.specs.Refusals.{by_contribution}
use Rattle.contribution.specs.Isins.{well_formed, place}
use Rattle.contribution.specs.Checks.{dealt, price_at, trade_checks, trades_checks, securities_checks}
use Rattle.contribution.specs.Steps.{in_security, bought, sold, paid, received, net, value, gain, sumℤ, above_zero, rounded_up, provisional, calculated, renewed, distance}
use Rattle.contribution.specs.Positions.{position, at_risk, up, down}
use Rattle.contribution.specs.Contribution.{all_checks, assessment, verdict}
use Rattle.contribution.specs.Laws.{on_side, Sound}
use Rattle.contribution.proofs.Assessing.{accepted, provisional_is}

-- a trade passes its checks wherever it stands
anywhere : (ss : List Security) (i j : ℕ) (t : Trade) → Ok tt ≡ clear (trade_checks ss i t) → Ok tt ≡ clear (trade_checks ss j t)
anywhere ss i j t e = go (not (well_formed t.isin.bytes)) (not (dealt t)) (not (is_some (place ss t.isin.bytes)))
    (ltb 100000000 (t.quantity * t.price) || ltb 100000000 (t.quantity * price_at ss (place ss t.isin.bytes))) e where
      go : (a b c d : Bool) → Ok tt ≡ clear ((a, by_contribution 13 i) ∷ (b, by_contribution 16 i) ∷ (c, by_contribution 17 i) ∷ (d, by_contribution 18 i) ∷ []) →
          Ok tt ≡ clear ((a, by_contribution 13 j) ∷ (b, by_contribution 16 j) ∷ (c, by_contribution 17 j) ∷ (d, by_contribution 18 j) ∷ [])
      go false false false false e = refl
      go false false false true e = cc
      go false false true d e = cc
      go false true c d e = cc
      go true b c d e = cc

each_passes : (ss : List Security) (i : ℕ) (ts : List Trade) → Ok tt ≡ clear (each_from (trade_checks ss) i ts) → All (λ t. Ok tt ≡ clear (trade_checks ss 0 t)) ts
each_passes ss i [] e = tt
each_passes ss i (t ∷ ts) e =
    let b = clear_both (trade_checks ss i t) (each_from (trade_checks ss) (i + 1) ts) e in
    (anywhere ss i 0 t b.0, each_passes ss (i + 1) ts b.1)

all_pass : (ss : List Security) (i : ℕ) (ts : List Trade) → All (λ t. Ok tt ≡ clear (trade_checks ss 0 t)) ts → Ok tt ≡ clear (each_from (trade_checks ss) i ts)
all_pass ss i [] h = refl
all_pass ss i (t ∷ ts) h = all_pass ss (i + 1) ts h.1 ∙ sym (checked_on (trade_checks ss i t) (each_from (trade_checks ss) (i + 1) ts) tt (sym (anywhere ss 0 i t h.0)))

-- what securities and trades that pass every check are
record Passed (ss : List Security) (ts : List Trade) : Type 0 where
  few : (ltb 64 (length ss) || ltb 128 (length ts)) ≡ false
  securities : Ok tt ≡ clear (securities_checks ss)
  trades : Ok tt ≡ clear (trades_checks ss ts)
  height : calculated ss ts ≤ 1000000000

passed : (ss : List Security) (ts : List Trade) → Ok tt ≡ clear (all_checks ss ts) → Passed ss ts
passed ss ts e =
    let last = (ltb 1000000000 (calculated ss ts), by_contribution 20 0) ∷ [] in
    let counts = clear_first (ltb 64 (length ss) || ltb 128 (length ts), by_contribution 19 0) (securities_checks ss ++ (trades_checks ss ts ++ last)) e in
    let listed = clear_both (securities_checks ss) (trades_checks ss ts ++ last) counts.1 in
    let traded = clear_both (trades_checks ss ts) last listed.1 in
    let top = clear_first (ltb 1000000000 (calculated ss ts), by_contribution 20 0) [] traded.1 in
    record { few = counts.0; securities = listed.0; trades = traded.0; height = ltb-false 1000000000 (calculated ss ts) top.0 }

module _ (ss : List Security) (ts us : List Trade) (same : IsPermutation ts us) where
  place_alike : (s : Security) → position s us ≡ position s ts
  place_alike s = rw (sum_by-IsPermutation (bought s) ts us same, sum_by-IsPermutation (sold s) ts us same, sum_by-IsPermutation (paid s) ts us same, sum_by-IsPermutation (received s) ts us same)

  -- by the positions alone
  wanted : (Security → Position) → ℕ
  wanted q = rounded_up (sum_by (λ s. at_risk s (q s)) ss + 10000 * (sum_by (λ s. up s (q s)) ss - sum_by (λ s. down s (q s)) ss))

  alike : provisional ss us ≡ provisional ss ts
  unfolding wanted
  alike = provisional_is ss us ∙ ap wanted (fun_ext place_alike) ∙ sym (provisional_is ss ts)

  assessed_alike : (m : ℕ) → assessment ss us m ≡ assessment ss ts m
  assessed_alike m = rw (alike, fun_ext place_alike)

  passes_alike : Passed ss ts → Passed ss us
  passes_alike p =
      record {
        few = rw (length_permutation ts us same) p.few;
        securities = p.securities;
        trades = all_pass ss 0 us (all_shuffled (λ t. Ok tt ≡ clear (trade_checks ss 0 t)) ts us same (each_passes ss 0 ts p.trades));
        height = rw alike p.height;
      }

-- a purchase and a sale of as much at the same price
module _ (s : Security) (t : Trade) (ts : List Trade) where
  both : List Trade
  both = on_side Bought t ∷ on_side Sold t ∷ ts

  twice : (f : Trade → ℕ) → sum_by f both ≡ f (on_side Bought t) + (f (on_side Sold t) + sum_by f ts)
  unfolding both
  twice f = sum_by-cons f (on_side Bought t) (on_side Sold t ∷ ts) ∙ ap (λ n. f (on_side Bought t) + n) (sum_by-cons f (on_side Sold t) ts)

  -- what is added on both sides falls out of the difference
  level : (f g : Trade → ℕ) → f (on_side Bought t) ≡ g (on_side Sold t) → f (on_side Sold t) ≡ 0 → g (on_side Bought t) ≡ 0 → pos (sum_by f both) -ℤ pos (sum_by g both) ≡ pos (sum_by f ts) -ℤ pos (sum_by g ts)
  level f g e zf zg = let a = twice f in let b = twice g in omega (arith, ints)

  net_level : net s both ≡ net s ts
  net_level = elim (cases_Bool (in_security s t)) [ inl h ↦ level (bought s) (sold s) (simp h) (simp h) (simp h) | inr h ↦ level (bought s) (sold s) (simp h) (simp h) (simp h) ]

  money_level : pos (sum_by (paid s) both) -ℤ pos (sum_by (received s) both) ≡ pos (sum_by (paid s) ts) -ℤ pos (sum_by (received s) ts)
  money_level = elim (cases_Bool (in_security s t)) [ inl h ↦ level (paid s) (received s) (simp h) (simp h) (simp h) | inr h ↦ level (paid s) (received s) (simp h) (simp h) (simp h) ]

offset : (ss : List Security) (ts : List Trade) (t : Trade) → provisional ss (on_side Bought t ∷ on_side Sold t ∷ ts) ≡ provisional ss ts
unfolding both
offset ss ts t =
    let v : (λ s. value s (both s t ts) * s.risk * s.rate) ≡ (λ s. value s ts * s.risk * s.rate) = fun_ext (λ s. ap (λ z. nat_abs z * s.price * s.risk * s.rate) (net_level s t ts)) in
    let g : (λ s. gain s (both s t ts) *ℤ pos s.rate) ≡ (λ s. gain s ts *ℤ pos s.rate) =
    fun_ext (λ s. ap (λ z. (z -ℤ (net s (both s t ts) *ℤ pos s.price)) *ℤ pos s.rate) (money_level s t ts)
    ∙ ap (λ z. ((pos (sum_by (paid s) ts) -ℤ pos (sum_by (received s) ts)) -ℤ (z *ℤ pos s.price)) *ℤ pos s.rate) (net_level s t ts)) in
    ap (λ f. rounded_up (sum_by f ss + 10000 * above_zero (sumℤ (λ s. gain s (on_side Bought t ∷ on_side Sold t ∷ ts) *ℤ pos s.rate) ss))) v
    ∙ ap (λ f. rounded_up (sum_by (λ s. value s ts * s.risk * s.rate) ss + 10000 * above_zero (sumℤ f ss))) g

renews : (w m : ℕ) → (renewed w m ≡ m → ⊥) → (renewed w m ≡ w) × (m < 10 * distance w m)
renews w m ne =
    elim (cases_Bool (leb (10 * distance w m) m))
    [ inl h ↦ absurd (ne (cond-true _ m w h)) | inr h ↦ (cond-false _ m w h, leb-false (10 * distance w m) m h) ]

pub sound : (ss : List Security) (ts : List Trade) (m : ℕ) (a : Assessment) → Ok a ≡ verdict ss ts m → Sound ss ts m a
sound ss ts m a e =
    let is = checked_made (all_checks ss ts) (assessment ss ts m) a tt e in
    let p = passed ss ts is.1 in
    rw is.0 (record {
      least = omega arith;
      most = p.height;
      moved = renews (calculated ss ts) m;
      order = λ us same.
          (let q = passes_alike ss ts us same p in
          sym (accepted 64 128 ss us (assessment ss us m) q.few (sym q.securities) q.trades q.height) ∙ ap Ok (assessed_alike ss ts us same m));
      offset = offset ss ts;
    })
