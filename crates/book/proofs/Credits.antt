-- Weights taken from the rows, and parts added to them.
use Rattle.std.proofs.Common.{◌≡◌, ℕ, ◌+◌, ◌<◌, ◌≤◌, List, [], ◌∷◌, map, length, get_or, take, set, Ok, IsOk, Result, sum, sym, refl, ap, ◌∙◌, arith}
use Rattle.std.proofs.lemmas.List.{take_more_set, map_more, map-id, length-map}
use Rattle.std.proofs.lemmas.List.FromFn.{length-range_with_len}
use Rattle.std.proofs.lemmas.List.Sums.{sum_by-cons, sum-map}
use Rattle.std.proofs.lemmas.Bool.Decides.{nat_tests}
use Rattle.division.specs.declared.refusals.Refusal.{Refusal}
use Rattle.division.specs.Refusals.{answer}
use Rattle.division.specs.Division.{verdict, parts_of}
use Rattle.division.proofs.Shares.{fair}
use Rattle.book.specs.declared.rows.Row.{Row}
use Rattle.book.specs.Rows.{share, shares, charges, by_parts, credit, credited}
use Rattle.book.specs.declared.groups.Basis.{Basis}
use Rattle.book.specs.declared.groups.Basis.TheVariants.{Base}
use Rattle.book.specs.Groups.{weights}
use Rattle.book.proofs.Parts.{kept_by_parts, sum_by_parts, none_in_sum}

-- one more number, the weight of one more row
pub weighed : {X : Type 0} (g : X → ℕ) (out : List ℕ) (rows : List X) (i n : ℕ) (d : X) → i < length out → i < length rows → n ≡ g (get_or rows i d) → take i out ≡ map g (take i rows) → take (i + 1) (set out i n) ≡ map g (take (i + 1) rows)
weighed g out rows i n d h k e inv = cc (take_more_set out i n h, map_more g rows i d k)

-- and not to what is charged
pub charges_credited : (rows : List Row) (ps : List ℕ) → charges (credited rows ps) ≡ charges rows
charges_credited rows ps = sym (sum-map (λ r. r.charged) (by_parts credit rows ps)) ∙ ap sum (kept_by_parts credit (λ r. r.charged) (λ r p. refl) rows ps) ∙ sum-map (λ r. r.charged) rows

-- a call whose answer is a value was made
pub made : {V E : Type 0} (tells : E → Refusal) (r : Result V E) (v : V) → answer tells r ≡ Ok v → IsOk r
made tells r v e = grind arith

pub bases_within : (rows : List Row) → sum (weights Base rows) ≤ shares rows
bases_within [] = omega arith
bases_within (r ∷ rows) = omega (arith, bases_within rows, sum_by-cons (λ n. n) r.base (weights Base rows), sum_by-cons share r rows)

-- nor does one refuse the same by the numbers at the front of a list
pub divides : (a n k : ℕ) (ws out : List ℕ) → take k out ≡ ws → length ws ≤ 64 → n ≡ length ws → sum ws ≤ 4000000000 → a ≤ 4000000000 → 0 < sum ws → verdict a (map (λ w. w) (take k out)) n ≡ Ok tt
divides a n k ws out e few long limit low some = grind (arith, nat_tests, map-id)

-- the parts of an amount are as many as the rows, and sum to it
pub parts_fit : (basis : Basis) (rows : List Row) (amount : ℕ) → 0 < sum (weights basis rows) → (length (parts_of amount (weights basis rows)) ≡ length rows) × (sum (parts_of amount (weights basis rows)) ≡ amount)
parts_fit basis rows amount h = (simp (length-map, length-range_with_len), (fair amount (weights basis rows) h).whole)

pub shares_spread : (basis : Basis) (rows : List Row) (amount : ℕ) → 0 < sum (weights basis rows) → shares (credited rows (parts_of amount (weights basis rows))) ≡ shares rows + amount
shares_spread basis rows amount h =
    let ps = parts_of amount (weights basis rows) in
    grind (arith, sum_by_parts credit share (λ _. 0) (λ n. n) rows ps, none_in_sum ps, parts_fit basis rows amount h)
