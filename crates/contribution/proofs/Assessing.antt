-- From checked securities and tallied trades to the steps.
use Rattle.std.proofs.Common.{◌≡◌, ℕ, ◌+◌, ◌-◌, ◌*◌, ◌<◌, ◌≤◌, Bool, true, false, cond, not, ◌||◌, ltb, List, [], ◌∷◌, ◌++◌, map, length, get_or, take, replicate, pos, ◌-ℤ◌, ◌*ℤ◌, is_some, Ok, Err, sum_by, sym, refl, ap, ◌∙◌, inl, inr, zero-add, arith}
use mathlib.Core.Path.{fun_ext}
use Rattle.std.specs.List.{position_or_len}
use Rattle.std.specs.Str.{bytes_eq}
use Rattle.std.proofs.lemmas.List.{get_or-take, length-take}
use Rattle.std.proofs.lemmas.Iterator.Adapters.{position_from-zero}
use Rattle.std.proofs.lemmas.List.Sums.{sum_by-cons, fails_before_first}
use Rattle.std.proofs.lemmas.Int.{ints}
use Rattle.std.proofs.lemmas.Bool.{lt-ltb, le-ltb, ltb-false, cases_Bool, cond-true, cond-false}
use Rattle.division.specs.declared.refusals.Refusal.{Refusal}
use Rattle.division.specs.Refusals.{checked, clear}
use Rattle.division.proofs.Checks.{checked_on, checked_off, clear_at}
use Rattle.contribution.specs.declared.terms.Security.{Security}
use Rattle.contribution.specs.declared.terms.Trade.{Trade}
use Rattle.contribution.specs.declared.positions.Position.{Position}
use Rattle.contribution.specs.Refusals.{by_contribution}
use Rattle.contribution.specs.Isins.{well_formed, place}
use Rattle.contribution.specs.Checks.{priced, security_checks, securities_checks, trades_checks}
use Rattle.contribution.specs.Steps.{value, gain, bought, sold, paid, received, provisional, calculated, rounded_up, above_zero, sumℤ}
use Rattle.contribution.specs.Positions.{flat, position, at_risk, up, down, sum_pairs, Distinct}
use Rattle.contribution.specs.Contribution.{checks, positions}
use Rattle.contribution.proofs.Integers.{size, cut, times, sums_apart}

-- what a security that passes its checks is
cleared : (before : List Security) (i : ℕ) (s : Security) → Ok tt ≡ clear (security_checks before i s) → (priced s ≡ true) × (is_some (place before s.isin.bytes) ≡ false)
cleared before i s e = go (well_formed s.isin.bytes) (priced s) (is_some (place before s.isin.bytes)) e where
  go : (a b c : Bool) → Ok tt ≡ clear ((not a, by_contribution 13 i) ∷ (not b, by_contribution 14 i) ∷ (c, by_contribution 15 i) ∷ []) → (b ≡ true) × (c ≡ false)
  go true true false e = (refl, refl)
  go true true true e = cc
  go true false c e = cc
  go false b c e = cc

-- an ISIN without a place is nobody's
absent : (ss : List Security) (isin : List ℕ) → is_some (place ss isin) ≡ false → (j : ℕ) (d : Security) → j < length ss → bytes_eq (get_or ss j d).isin.bytes isin ≡ false
absent ss isin e j d h =
    let test : Security → Bool = λ s. bytes_eq s.isin.bytes isin in
    let first = position_from-zero test ss in
    elim (cases_Bool (ltb (position_or_len test ss) (length ss))) [
      | inl l ↦ (let f : true ≡ false = ap is_some (simp l at first) ∙ e in cc)
      | inr l ↦ fails_before_first test ss j d (omega (arith, ltb-false _ _ l))
    ]

module _ (ss : List Security) (e : Ok tt ≡ clear (securities_checks ss)) where
  at : (k : ℕ) (d : Security) → k < length ss → (priced (get_or ss k d) ≡ true) × (is_some (place (take k ss) (get_or ss k d).isin.bytes) ≡ false)
  at k d h = cleared (take k ss) k (get_or ss k d) (rw zero-add at (clear_at (λ i s. security_checks (take i ss) i s) ss 0 k d e h))

  pub all_priced : (k : ℕ) (d : Security) → k < length ss → priced (get_or ss k d) ≡ true
  all_priced k d h = (at k d h).0

  pub distinct : Distinct ss
  distinct j k d l h =
      rw (get_or-take k ss j d l) at (absent (take k ss) (get_or ss k d).isin.bytes (at k d h).1 j d (rw length-take (omega arith)))

-- the sums over securities and their positions, rest standing past them
pairs : (f : Security → Position → ℕ) (ss : List Security) (ts : List Trade) (rest : List Position) → sum_pairs f ss (map (λ s. position s ts) ss ++ rest) ≡ sum_by (λ s. f s (position s ts)) ss
pairs f [] ts rest = refl
pairs f (s ∷ ss) ts rest = rw (pairs f ss ts rest) (sym (sum_by-cons (λ s. f s (position s ts)) s ss))

-- V × R × E and G × E by the sums that are kept apart
valued : (ts : List Trade) (s : Security) → value s ts * s.risk * s.rate ≡ at_risk s (position s ts)
valued ts s = ap (λ n. n * s.price * s.risk * s.rate) (size (sum_by (bought s) ts) (sum_by (sold s) ts))

gained : (ts : List Trade) (s : Security) → gain s ts *ℤ pos s.rate ≡ pos (up s (position s ts)) -ℤ pos (down s (position s ts))
gained ts s =
    let b = sum_by (bought s) ts in
    let o = sum_by (sold s) ts in
    let p = sum_by (paid s) ts in
    let r = sum_by (received s) ts in
    let n = times b o s.price in
    let e : gain s ts ≡ pos (p + o * s.price) -ℤ pos (r + b * s.price) = ap (λ z. (pos p -ℤ pos r) -ℤ z) n ∙ omega (arith, ints) in
    ap (λ z. z *ℤ pos s.rate) e ∙ times (p + o * s.price) (r + b * s.price) s.rate

pub provisional_is : (ss : List Security) (ts : List Trade) →
    provisional ss ts ≡ rounded_up (sum_by (λ s. at_risk s (position s ts)) ss + 10000 * (sum_by (λ s. up s (position s ts)) ss - sum_by (λ s. down s (position s ts)) ss))
provisional_is ss ts =
    let u : Security → ℕ = λ s. up s (position s ts) in
    let d : Security → ℕ = λ s. down s (position s ts) in
    let risk : sum_by (λ s. value s ts * s.risk * s.rate) ss ≡ sum_by (λ s. at_risk s (position s ts)) ss = ap (λ f. sum_by f ss) (fun_ext (valued ts)) in
    let rise : above_zero (sumℤ (λ s. gain s ts *ℤ pos s.rate) ss) ≡ sum_by u ss - sum_by d ss = ap above_zero (sums_apart (λ s. gain s ts *ℤ pos s.rate) u d (gained ts) ss) ∙ cut (sum_by u ss) (sum_by d ss) in
    ap (λ n. rounded_up (n + 10000 * above_zero (sumℤ (λ s. gain s ts *ℤ pos s.rate) ss))) risk ∙ ap (λ n. rounded_up (sum_by (λ s. at_risk s (position s ts)) ss + 10000 * n)) rise

-- sums over the positions give WW
pub summed_up : (n : ℕ) (ss : List Security) (ts : List Trade) (ps : List Position) → ps ≡ positions n ss ts →
    rounded_up (sum_pairs at_risk ss ps + 10000 * (sum_pairs up ss ps - sum_pairs down ss ps)) ≡ provisional ss ts
summed_up n ss ts ps e =
    let rest = replicate (n - length ss) flat in
    rw (e, pairs at_risk ss ts rest, pairs up ss ts rest, pairs down ss ts rest) (sym (provisional_is ss ts))

-- the checks in their order, for lists that are not too long
module _ {V : Type 0} (a b : ℕ) (ss : List Security) (ts : List Trade) (v : V) (few : (ltb a (length ss) || ltb b (length ts)) ≡ false) where
  counted : checked (checks a b ss ts) v ≡ checked (securities_checks ss ++ (trades_checks ss ts ++ ((ltb 1000000000 (calculated ss ts), by_contribution 20 0) ∷ []))) v
  counted = cond-false _ _ _ few

  pub by_securities : (r : Refusal) → clear (securities_checks ss) ≡ Err r → Err r ≡ checked (checks a b ss ts) v
  by_securities r e = sym (counted ∙ checked_off (securities_checks ss) _ v r e)

  module _ (sound : clear (securities_checks ss) ≡ Ok tt) where
    pub by_trades : (r : Refusal) → Err r ≡ clear (trades_checks ss ts) → Err r ≡ checked (checks a b ss ts) v
    by_trades r e = sym (counted ∙ checked_on (securities_checks ss) _ v sound ∙ checked_off (trades_checks ss ts) _ v r (sym e))

    module _ (traded : Ok tt ≡ clear (trades_checks ss ts)) where
      by_height : checked (checks a b ss ts) v ≡ cond (ltb 1000000000 (calculated ss ts)) (Err (by_contribution 20 0)) (Ok v)
      by_height = counted ∙ checked_on (securities_checks ss) _ v sound ∙ checked_on (trades_checks ss ts) _ v (sym traded)

      pub too_high : 1000000000 < calculated ss ts → Err (by_contribution 20 0) ≡ checked (checks a b ss ts) v
      too_high h = sym (by_height ∙ cond-true _ _ _ (lt-ltb 1000000000 (calculated ss ts) h))

      pub accepted : calculated ss ts ≤ 1000000000 → Ok v ≡ checked (checks a b ss ts) v
      accepted h = sym (by_height ∙ cond-false _ _ _ (le-ltb 1000000000 (calculated ss ts) h))
