-- A use takes from each group what the law says, the groups told by the defaulter's code.
use Rattle.std.proofs.Common.{◌≡◌, ℕ, zero, suc, ◌+◌, ◌-◌, ◌<◌, ◌≤◌, true, List, [], ◌∷◌, map, length, get_or, is_some, sum, sym, refl, ap, ◌∙◌, arith}
use native.Mathlib.Nat.{div-zero}
use Rattle.std.proofs.lemmas.List.{length-map, get_or-map}
use Rattle.std.proofs.lemmas.List.FromFn.{length-range_with_len, get_or-map-range_with_len}
use Rattle.std.proofs.lemmas.List.Sums.{sum_by-cons}
use Rattle.division.specs.Division.{part, parts_of}
use Rattle.division.proofs.Shares.{fair}
use Rattle.book.specs.declared.rows.Row.{Row}
use Rattle.book.specs.declared.groups.Group.{Group}
use Rattle.book.specs.declared.groups.Group.TheVariants.{OwnBase, OwnReserve, OtherBases, OtherReserves}
use Rattle.book.specs.declared.groups.Basis.TheVariants.{Group as Of}
use Rattle.book.specs.Rows.{shares, place, nobody}
use Rattle.book.specs.Groups.{charged_all, weights, has, earlier, levied, pays, used_rows}
use Rattle.book.specs.Calls.{Groups}
use Rattle.book.specs.Laws.{own, others, Empty, Pays, Used}
use Rattle.book.proofs.Membership.{codes_each}
use Rattle.book.proofs.Defaults.{Marked, marked_each, Charged, each_used}
use Rattle.book.proofs.Levies.{other_group, groups_are_all}

-- weights with parts taken off
abbrev lessened : List ℕ → List ℕ → List ℕ
lessened ws [] = ws
lessened [] (p ∷ ps) = []
lessened (w ∷ ws) (p ∷ ps) = (w - p) ∷ lessened ws ps

get_d_lessened : (ws ps : List ℕ) (k : ℕ) → get_or (lessened ws ps) k 0 ≡ get_or ws k 0 - get_or ps k 0
get_d_lessened ws [] k = omega arith
get_d_lessened [] (p ∷ ps) k = omega arith
get_d_lessened (w ∷ ws) (p ∷ ps) zero = refl
get_d_lessened (w ∷ ws) (p ∷ ps) (suc k) = get_d_lessened ws ps k

sum_lessened : (ws ps : List ℕ) → length ps ≡ length ws → ((k : ℕ) → k < length ws → get_or ps k 0 ≤ get_or ws k 0) → sum (lessened ws ps) + sum ps ≡ sum ws
sum_lessened [] [] e h = refl
sum_lessened (w ∷ ws) (p ∷ ps) e h = omega (arith, h 0 (omega arith), sum_lessened ws ps (omega arith) (λ k l. h (suc k) (omega arith)), sum_by-cons (λ n. n) w ws, sum_by-cons (λ n. n) p ps, sum_by-cons (λ n. n) (w - p) (lessened ws ps))
sum_lessened ws ps e h = absurd (omega arith)

-- what is left of the weights once they paid n
abbrev left : ℕ → List ℕ → List ℕ
left n ws = lessened ws (parts_of n ws)

-- of an amount not above the weights in sum, be that 0, no part is above its weight
within : (n : ℕ) (ws : List ℕ) → n ≤ sum ws → (k : ℕ) → k < length ws → get_or (parts_of n ws) k 0 ≤ get_or ws k 0
within n ws enough k h = grind (arith, fair n ws, div-zero, get_or-map-range_with_len (part n ws) 0 (length ws) k k 0 h)

-- weights that paid all that they have are empty
all_paid : (n : ℕ) (ws : List ℕ) → n ≡ sum ws → sum (left n ws) ≡ 0
all_paid n ws e = grind (arith, sum_lessened ws (parts_of n ws) (simp (length-map, length-range_with_len)) (within n ws (omega arith)), fair n ws)

-- a group whose weights are those left of a payment paid it
fairly_paid : (f : Row → ℕ) (before after : List Row) (n : ℕ) → length after ≡ length before → n ≤ sum (map f before) → map f after ≡ left n (map f before) → Pays f before after n
fairly_paid f before after n long enough e =
    record {
      charges = parts_of n (map f before);
      each = simp (length-map, length-range_with_len);
      less = λ k h.
          let new = get_or-map f after k nobody 0 (omega arith) in
          let old = get_or-map f before k nobody 0 h in
          let off = ap (λ ws. get_or ws k 0) e ∙ get_d_lessened (map f before) (parts_of n (map f before)) k in
          omega (arith, within n (map f before) enough k (simp length-map h));
      fair = fair n (map f before);
      none = λ none. omega arith;
    }

own_group : (g : Group) (rows : List Row) (ps : List ℕ) → weights (Of g) (charged_all g rows ps) ≡ lessened (weights (Of g) rows) ps
own_group g rows [] = refl
own_group g [] (p ∷ ps) = refl
own_group g (r ∷ rows) (p ∷ ps) = grind (arith, own_group g rows ps)

-- each group pays its own amount n
module _ (n : Group → ℕ) where
  abbrev levy : Group → List Row → List Row
  levy g rows = levied g (n g) rows

  own_levy : (g : Group) (rows : List Row) → weights (Of g) (levy g rows) ≡ left (n g) (weights (Of g) rows)
  own_levy g rows = own_group g rows (parts_of (n g) (weights (Of g) rows))

  other_levy : (g h : Group) → (g ≡ h → ⊥) → (rows : List Row) → weights (Of h) (levy g rows) ≡ weights (Of h) rows
  other_levy g h ne rows = other_group g h ne (n g) rows

  -- of what it had at first, and no later group takes from it
  each_levy : (g : Group) (rows : List Row) → weights (Of g) (levy OtherReserves (levy OtherBases (levy OwnReserve (levy OwnBase rows)))) ≡ left (n g) (weights (Of g) rows)
  each_levy g rows = grind (arith, own_levy, other_levy)

-- what of a row is in the group, by the defaulter's code
abbrev by_code : ℕ → Group → Row → ℕ
by_code member OwnBase = own member (λ r. r.base)
by_code member OwnReserve = own member (λ r. r.reserve)
by_code member OtherBases = others member (λ r. r.base)
by_code member OtherReserves = others member (λ r. r.reserve)

weights_by_code : (member : ℕ) (g : Group) (rows : List Row) → Marked true member rows → weights (Of g) rows ≡ map (by_code member g) rows
weights_by_code member g [] s = refl
weights_by_code member g (r ∷ rows) s = grind (arith, weights_by_code member g rows)

module _ (member amount : ℕ) (rows : List Row) (s : Marked true member rows) where
  abbrev after : List Row
  after = used_rows rows amount

  same_codes : map (λ r. r.code) after ≡ map (λ r. r.code) rows
  same_codes = codes_each Charged (λ r t c. c.code) rows after (each_used rows amount)

  -- what the group has, and what is left of it
  had : (g : Group) → weights (Of g) rows ≡ map (by_code member g) rows
  had g = weights_by_code member g rows s

  has_left : (g : Group) → map (by_code member g) after ≡ left (pays g rows amount) (map (by_code member g) rows)
  has_left g = sym (weights_by_code member g after (marked_each true member Charged (λ r t c. c.code) (λ r t c. c.standing) rows after (each_used rows amount) s)) ∙ each_levy (λ h. pays h rows amount) g rows ∙ ap (left (pays g rows amount)) (had g)

  paid : (g : Group) → Pays (by_code member g) rows after (pays g rows amount)
  paid g = fairly_paid (by_code member g) rows after (pays g rows amount) (cc (length-map after (λ r. r.code), length-map rows (λ r. r.code), ap length same_codes)) (omega (arith, ap sum (had g))) (has_left g)

  -- an amount that takes all of a group leaves it empty
  emptied : (g : Group) → earlier g rows + has g rows ≤ amount → Empty (by_code member g) after
  emptied g h = grind (arith, has_left g, all_paid (pays g rows amount) (map (by_code member g) rows), had g)

  pub used_by : is_some (place rows member) ≡ true → amount ≤ shares rows →
      Used member amount (Groups (pays OwnBase rows amount) (pays OwnReserve rows amount) (pays OtherBases rows amount) (pays OtherReserves rows amount)) rows (used_rows rows amount)
  used_by has_row enough = grind (arith, groups_are_all rows, same_codes, paid OwnBase, paid OwnReserve, paid OtherBases, paid OtherReserves, emptied OwnBase, emptied OwnReserve, emptied OtherBases)
