-- What the calls of the book do to the sum of the shares.
use Rattle.std.proofs.Common.{◌≡◌, ℕ, ◌<◌, ◌≤◌, List, [], ◌∷◌, map, length, get_or, set, Ok, sum_by, sym, refl, ap, arith}
use Rattle.std.proofs.lemmas.List.Sums.{sum_by-cons, sum_by-set}
use Rattle.std.proofs.lemmas.Bool.Decides.{nat_tests}
use Rattle.division.specs.Refusals.{checked}
use Rattle.book.specs.declared.rows.Row.{Row}
use Rattle.book.specs.Rows.{share, shares, charges, row_of, Stands, based_as_required, case_closed}
use Rattle.book.proofs.Places.{row_there}
use Rattle.book.specs.States.{State, regulation}

-- a row that keeps its measure leaves the sum as it was
pub same_sum : (f : Row → ℕ) (rows : List Row) (i : ℕ) (x w : Row) → i < length rows → x ≡ get_or rows i x → f w ≡ f x → sum_by f (set rows i w) ≡ sum_by f rows
same_sum f rows i x w h read e = let old = ap f read in omega (arith, sum_by-set f rows i w x h)

-- the same of a member's row
pub same_for_member : (f : Row → ℕ) (rows : List Row) (code i : ℕ) (w : Row) → Stands rows code i → f w ≡ f (row_of rows code) → sum_by f (set rows i w) ≡ sum_by f rows
same_for_member f rows code i w stands e = same_sum f rows i (row_of rows code) w stands.inside (sym (row_there rows code i (row_of rows code) stands)) e

-- a regulated row: the sum of the shares after it
pub when_regulated : (s : State) (code i : ℕ) (k u : ℕ × Row) → Ok u ≡ checked (regulation s code) k → Stands s.rows code i →
    shares (set s.rows i (based_as_required (row_of s.rows code))) ≤ 4000000000
when_regulated s code i k u e stands =
    let w = based_as_required (row_of s.rows code) in
    grind (arith, nat_tests, row_there s.rows code i w stands, sum_by-set share s.rows i w w)

pub same_closed : (rows : List Row) → shares (map case_closed rows) ≡ shares rows
same_closed [] = refl
same_closed (r ∷ rows) = omega (arith, sum_by-cons share (case_closed r) (map case_closed rows), same_closed rows, sum_by-cons share r rows)

-- a closed case has charged nothing
pub none_charged : (rows : List Row) → charges (map case_closed rows) ≡ 0
none_charged [] = refl
none_charged (r ∷ rows) = none_charged rows
