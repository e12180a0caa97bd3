-- The rows of a book: who has one, and what they hold.
use Rattle.std.specs.Prelude.{◌≡◌, ℕ, ◌+◌, ◌<◌, cond, length, List, [], ◌∷◌, Some, None, sum_by, Option, ◌==◌, slice_index_or}
use Rattle.std.specs.List.{position_from}
use Rattle.std.specs.Option.{unwrap_or}
use Rattle.book.specs.declared.rows.Row.{Row}
use Rattle.book.specs.declared.standings.Event.{Event}
use Rattle.book.specs.declared.standings.Event.TheVariants.{CloseCase}
use Rattle.book.specs.Standings.{next}
use Rattle.book.specs.declared.rows.Standing.TheVariants.{Active}

-- what a member has in the fund
abbrev pub share : Row → ℕ
share r = r.base + r.reserve

-- what all members have in the fund
abbrev pub shares : List Row → ℕ
shares rows = sum_by share rows

-- what the open case took from all members
abbrev pub charges : List Row → ℕ
charges rows = sum_by (λ r. r.charged) rows

-- where the row of the member with the code stands
abbrev pub place : List Row → ℕ → Option ℕ
place rows code = position_from (λ r. r.code == code) 0 rows

-- that member's row changed, and no other
abbrev pub changed : (Row → Row) → List Row → ℕ → List Row
changed f [] code = []
changed f (r ∷ rows) code = cond (r.code == code) (f r ∷ rows) (r ∷ changed f rows code)

-- that member's row taken out
abbrev pub without : List Row → ℕ → List Row
without [] code = []
without (r ∷ rows) code = cond (r.code == code) rows (r ∷ without rows code)

-- what stands in for the row of someone who has none
abbrev pub nobody : Row
nobody = record { code = 0; standing = Active; base = 0; reserve = 0; required = 0; charged = 0 }

abbrev pub row_at : List Row → Option ℕ → Row
row_at rows None = nobody
row_at rows (Some i) = slice_index_or rows i nobody

-- the row of the member with the code
abbrev pub row_of : List Row → ℕ → Row
row_of rows code = row_at rows (place rows code)

-- the place of the member's row, with the row
abbrev pub found : List Row → ℕ → ℕ × Row
found rows code = (unwrap_or (place rows code) 0, row_of rows code)

-- the member's row stands at the place i
pub record Stands (rows : List Row) (code i : ℕ) : Type 0 where
  pub here : place rows code ≡ Some i
  pub inside : i < length rows

-- a row with another required contribution
abbrev pub required_as : ℕ → Row → Row
required_as n r = record { code = r.code; standing = r.standing; base = r.base; reserve = r.reserve; required = n; charged = r.charged }

-- a row whose base is what is required
abbrev pub based_as_required : Row → Row
based_as_required r = record { code = r.code; standing = r.standing; base = r.required; reserve = r.reserve; required = r.required; charged = r.charged }

-- a row as the call leaves its standing
abbrev pub standing_after : Event → Row → Row
standing_after event r =
    record { code = r.code; standing = unwrap_or (next r.standing event) r.standing; base = r.base; reserve = r.reserve; required = r.required; charged = r.charged }

-- a row once the case is closed
abbrev pub case_closed : Row → Row
case_closed r =
    record { code = r.code; standing = unwrap_or (next r.standing CloseCase) r.standing; base = r.base; reserve = r.reserve; required = r.required; charged = 0 }

-- the rows, each changed by its part
abbrev pub by_parts : (Row → ℕ → Row) → List Row → List ℕ → List Row
by_parts f rows [] = rows
by_parts f [] (p ∷ ps) = []
by_parts f (r ∷ rows) (p ∷ ps) = f r p ∷ by_parts f rows ps

-- a row with a part added to its reserve
abbrev pub credit : Row → ℕ → Row
credit r p = record { code = r.code; standing = r.standing; base = r.base; reserve = r.reserve + p; required = r.required; charged = r.charged }

-- the rows with parts added to their reserves
abbrev pub credited : List Row → List ℕ → List Row
credited rows ps = by_parts credit rows ps
