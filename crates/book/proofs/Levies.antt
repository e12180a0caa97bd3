-- What a levy on a group takes from the rows, and what it leaves alone.
use Rattle.std.proofs.Common.{◌≡◌, ℕ, zero, suc, ◌+◌, ◌-◌, ◌<◌, ◌≤◌, min, List, [], ◌∷◌, map, length, get_or, sum, refl, ap, ◌∙◌, inl, inr, zero-mul, arith}
use native.Mathlib.Nat.{zero-div, sub_self}
use Rattle.std.specs.List.{range_with_len}
use Rattle.std.proofs.lemmas.List.{length-map, get_or-map}
use Rattle.std.proofs.lemmas.List.FromFn.{length-range_with_len}
use Rattle.std.proofs.lemmas.List.Sums.{sum_by-cons, sum-map}
use Rattle.std.proofs.lemmas.Bool.{cases_eq}
use Rattle.division.specs.Division.{part, parts_of}
use Rattle.division.proofs.Shares.{fair}
use Rattle.book.specs.declared.rows.Row.{Row}
use Rattle.book.specs.declared.groups.Group.{Group}
use Rattle.book.specs.declared.groups.Group.TheVariants.{OwnBase, OwnReserve, OtherBases, OtherReserves}
use Rattle.book.specs.declared.groups.Basis.{Basis}
use Rattle.book.specs.declared.groups.Basis.TheVariants.{Group as Of}
use Rattle.book.specs.Rows.{share, shares, charges, nobody}
use Rattle.book.specs.Groups.{in_group, weights, has, charged_in, pays, levied, Levy, used_rows}
use Rattle.book.proofs.Parts.{no_change, kept_by_parts, sum_by_parts, none_in_sum}
use Rattle.book.proofs.Credits.{parts_fit, bases_within}

-- and of all rows
pub groups_are_all : (rows : List Row) → has OwnBase rows + has OwnReserve rows + has OtherBases rows + has OtherReserves rows ≡ shares rows
groups_are_all [] = refl
groups_are_all (r ∷ rows) = grind (arith, groups_are_all rows, λ (g : Group). sum_by-cons (λ n. n) (in_group g r) (weights (Of g) rows), sum_by-cons share r rows)

-- no basis gives the rows more weight than a limit of both their sums
pub weights_within : (basis : Basis) (rows : List Row) (n : ℕ) → shares rows ≤ n → charges rows ≤ n → sum (weights basis rows) ≤ n
weights_within basis rows n h k = grind (arith, bases_within rows, sum-map (λ (r : Row). r.charged) rows, groups_are_all rows)

-- a levy on one group leaves what the rows have in another
pub other_group : (g h : Group) → (g ≡ h → ⊥) → (n : ℕ) (rows : List Row) → weights (Of h) (levied g n rows) ≡ weights (Of h) rows
other_group g h ne n rows = kept_by_parts (charged_in g) (in_group h) (λ r p. grind arith) rows (parts_of n (weights (Of g) rows))

-- the parts of 0 are 0
nothing : (ws : List ℕ) → parts_of 0 ws ≡ map (λ _. 0) (range_with_len 0 (length ws))
nothing ws = ap (λ f. map f (range_with_len 0 (length ws))) (λ i k. part_of_none k i)
  where
    part_of_none : (k : ℕ) → part 0 ws k ≡ 0
    part_of_none k = simp (zero-mul, zero-div, sub_self)

nothing_at : (ws : List ℕ) (k : ℕ) → get_or (parts_of 0 ws) k 0 ≡ 0
nothing_at ws k = ap (λ ps. get_or ps k 0) (nothing ws) ∙ all (range_with_len 0 (length ws)) k
  where
    all : (xs : List ℕ) (k : ℕ) → get_or (map (λ _. zero) xs) k zero ≡ zero
    all [] k = refl
    all (x ∷ xs) zero = refl
    all (x ∷ xs) (suc k) = all xs k

-- a levy of 0 leaves the rows as they were
pub levied_none : (g : Group) (rows : List Row) → levied g 0 rows ≡ rows
levied_none g rows = no_change (charged_in g) (λ r. grind arith) rows (parts_of 0 (weights (Of g) rows)) (nothing_at (weights (Of g) rows))

-- the parts of what a group pays: as many as the rows, in sum what it pays, and none above what of its row is in the group
pub group_parts : (g : Group) (n : ℕ) (rows : List Row) → n ≤ has g rows → (length (parts_of n (weights (Of g) rows)) ≡ length rows) × (sum (parts_of n (weights (Of g) rows)) ≡ n) ×
    ((k : ℕ) → k < length rows → get_or (parts_of n (weights (Of g) rows)) k 0 ≤ in_group g (get_or rows k nobody))
group_parts g n rows small =
    let ws = weights (Of g) rows in
    elim (cases_eq n 0) [
      | inl z ↦ rw z (simp (length-map, length-range_with_len), ap sum (nothing ws) ∙ sum-map (λ _. 0) (range_with_len 0 (length ws)) ∙ none_in_sum (range_with_len 0 (length ws)), λ k h. omega (arith, nothing_at ws k))
      | inr nz ↦ (
          let fit = parts_fit (Of g) rows n (omega arith) in
          (fit.0, fit.1, λ k h. omega (arith, (fair n ws (omega arith)).within small k (simp length-map h), get_or-map (in_group g) rows k nobody 0 h)))
    ]

-- a levy comes off the shares
pub shares_levied : (g : Group) (n : ℕ) (rows : List Row) → n ≤ has g rows → shares (levied g n rows) + n ≡ shares rows
shares_levied g n rows small =
    let ps = parts_of n (weights (Of g) rows) in
    grind (arith, group_parts g n rows small, none_in_sum ps, sum_by_parts (charged_in g) share (λ p. p) (λ _. 0) rows ps)

-- and is kept as charged
pub charges_levied : (g : Group) (n : ℕ) (rows : List Row) → n ≤ has g rows → charges (levied g n rows) ≡ charges rows + n
charges_levied g n rows small =
    let ps = parts_of n (weights (Of g) rows) in
    grind (arith, group_parts g n rows small, none_in_sum ps, sum_by_parts (charged_in g) (λ r. r.charged) (λ _. 0) (λ p. p) rows ps)

module _ {g : Group} {rest n : ℕ} {rows new : List Row} (levy : Levy g rest rows n new) where
  -- what another group has stays,
  others_have : (h : Group) → (g ≡ h → ⊥) → has h new ≡ has h rows
  others_have h ne = ap (has h) levy.left ∙ ap sum (other_group g h ne n rows)

  -- the payment goes from the shares to what is charged,
  sums_after : (shares new + n ≡ shares rows) × (charges new ≡ charges rows + n)
  sums_after = grind (arith, levy.left, levy.most, shares_levied g n rows, charges_levied g n rows)

  -- and there is room for what is left of the rest
  pub room_after : charges rows + rest ≤ 4000000000 → charges new + (rest - n) ≤ 4000000000
  room_after room = omega (arith, sums_after, room, levy.most)

-- the four groups in turn
module _ {rows one two three four : List Row} {amount a b c d : ℕ} (first : Levy OwnBase amount rows a one) (second : Levy OwnReserve (amount - a) one b two)
    (third : Levy OtherBases (amount - a - b) two c three) (fourth : Levy OtherReserves (amount - a - b - c) three d four) where
  -- each has what it had when the first began
  each_has : (has OwnReserve one ≡ has OwnReserve rows) × (has OtherBases two ≡ has OtherBases rows) × (has OtherReserves three ≡ has OtherReserves rows)
  each_has = grind (arith, others_have first, others_have second, others_have third)

  -- so that each pays what the definition says
  pub in_turn : (a ≡ pays OwnBase rows amount) × (b ≡ pays OwnReserve rows amount) × (c ≡ pays OtherBases rows amount) × (d ≡ pays OtherReserves rows amount)
  in_turn = grind (arith, first.most, second.most, third.most, fourth.most, each_has)

  -- the rows are what it says,
  pub used_in_turn : four ≡ used_rows rows amount
  used_in_turn = let p = in_turn in cc

  -- and the amount goes from the shares to what is charged
  used_sums : amount ≤ shares rows → (shares (used_rows rows amount) + amount ≡ shares rows) × (charges (used_rows rows amount) ≡ charges rows + amount)
  used_sums enough = grind (arith, used_in_turn, first.most, second.most, third.most, fourth.most, each_has, groups_are_all rows, sums_after first, sums_after second, sums_after third, sums_after fourth)

-- a levy that can always be made
taken : (g : Group) (rest : ℕ) (rows : List Row) → Levy g rest rows (min rest (has g rows)) (levied g (min rest (has g rows)) rows)
taken g rest rows = record { most = refl; left = refl }

-- a use comes off the shares, and is kept as charged
pub use_sums : (rows : List Row) (amount : ℕ) → amount ≤ shares rows → (shares (used_rows rows amount) + amount ≡ shares rows) × (charges (used_rows rows amount) ≡ charges rows + amount)
use_sums rows amount enough = used_sums (taken OwnBase amount rows) (taken OwnReserve _ _) (taken OtherBases _ _) (taken OtherReserves _ _) enough
