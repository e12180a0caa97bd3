-- Where a member's row stands.
use Rattle.std.proofs.Common.{◌≡◌, ℕ, suc, ◌+◌, ◌-◌, ◌<◌, ◌≤◌, eqb, List, [], ◌∷◌, length, get_or, set, Some, Ok, Option, IfSome, ◌∙◌, inl, inr, arith}
use Rattle.std.proofs.lemmas.List.{get_or_default}
use Rattle.std.proofs.lemmas.Bool.{cases_Bool}
use Rattle.std.specs.List.{position_from, remove}
use Rattle.division.specs.Refusals.{Check, checked}
use Rattle.division.proofs.Checks.{checked_made}
use Rattle.book.specs.declared.rows.Row.{Row}
use Rattle.book.specs.Rows.{place, row_of, found, Stands, nobody, changed, without}

-- the row that stands at a member's place is the member's
pub row_there : (rows : List Row) (code i : ℕ) (d : Row) → Stands rows code i → get_or rows i d ≡ row_of rows code
row_there rows code i d at = grind (arith, get_or_default rows i d nobody)

-- the row that is lent at a member's place is the member's
pub lent : (rows : List Row) (code i : ℕ) (r : Row) → Stands rows code i → r ≡ get_or rows i r → r ≡ row_of rows code
lent rows code i r at e = e ∙ row_there rows code i r at

-- a row that was found is the member's
pub row_is : (cs : List Check) (rows : List Row) (code i : ℕ) (r : Row) → Ok (i, r) ≡ checked cs (found rows code) → r ≡ row_of rows code
row_is cs rows code i r e = grind (arith, checked_made cs (found rows code) (i, r) (tt {0}) e)

-- the row at a member's place, changed there
abbrev from : ℕ → List Row → ℕ → Option ℕ
from j rows code = position_from (λ r. eqb r.code code) j rows

module _ (f : Row → Row) (code : ℕ) where
  at : (rows : List Row) (j i : ℕ) (d : Row) → from j rows code ≡ Some i → (j ≤ i) × (set rows (i - j) (f (get_or rows (i - j) d)) ≡ changed f rows code)
  at [] j i d e = grind arith
  at (r ∷ rows) j i d e = grind (arith, at rows (j + 1) i d)

  -- w is what is written there
  pub replaced : (rows : List Row) (i : ℕ) (w : Row) → Stands rows code i → w ≡ f (row_of rows code) → set rows i w ≡ changed f rows code
  replaced rows i w stands new = grind (arith, row_there rows code i nobody stands, at rows 0 i nobody stands.here)

-- where a place is found, the member's row stands there
inside : (rows : List Row) (code j i : ℕ) → from j rows code ≡ Some i → i < j + length rows
inside [] code j i e = grind arith
inside (r ∷ rows) code j i e = grind (arith, inside rows code (j + 1) i)

pub placed : (rows : List Row) (code : ℕ) (o : Option ℕ) → o ≡ place rows code → IfSome o (Stands rows code)
placed rows code o e = grind (arith, inside rows code 0)

-- the row at a member's place, taken out
out : (code : ℕ) (rows : List Row) (j i : ℕ) → from j rows code ≡ Some i → (j ≤ i) × (remove rows (i - j) ≡ without rows code)
out code [] j i e = grind arith
out code (r ∷ rows) j i e =
    elim (cases_Bool (eqb r.code code)) [
      | inl t ↦ grind arith
      | inr t ↦ (let g : from (j + 1) rows code ≡ Some i = simp t at e in let p = out code rows (j + 1) i g in let z : i - j ≡ suc (i - (j + 1)) = omega arith in grind arith)
    ]

pub taken_out : (code : ℕ) (rows : List Row) (i : ℕ) → place rows code ≡ Some i → remove rows i ≡ without rows code
taken_out code rows i e = grind (arith, out code rows 0 i)
