-- What a row weighs in a division, and what a use takes from each group of shares.
use Rattle.std.specs.Prelude.{◌≡◌, ℕ, ◌+◌, ◌-◌, min, Bool, true, false, cond, List, map, sum}
use Rattle.division.specs.Division.{parts_of}
use Rattle.book.specs.declared.rows.Row.{Row}
use Rattle.book.specs.declared.rows.Standing.{Standing}
use Rattle.book.specs.declared.rows.Standing.TheVariants.{Active, Defaulting, Barred}
use Rattle.book.specs.Rows.{by_parts}
use Rattle.book.specs.declared.groups.Group.{Group}
use Rattle.book.specs.declared.groups.Group.TheVariants.{OwnBase, OwnReserve, OtherBases, OtherReserves}
use Rattle.book.specs.declared.groups.Basis.{Basis}
use Rattle.book.specs.declared.groups.Basis.TheVariants.{Base, Charged, Group as Of}

abbrev pub in_default : Standing → Bool
in_default Active = false
in_default Defaulting = true
in_default Barred = false

-- what of a row is in the group
abbrev pub in_group : Group → Row → ℕ
in_group OwnBase r = cond (in_default r.standing) r.base 0
in_group OwnReserve r = cond (in_default r.standing) r.reserve 0
in_group OtherBases r = cond (in_default r.standing) 0 r.base
in_group OtherReserves r = cond (in_default r.standing) 0 r.reserve

-- what a row weighs
abbrev pub weight : Basis → Row → ℕ
weight Base r = r.base
weight Charged r = r.charged
weight (Of g) r = in_group g r

abbrev pub weights : Basis → List Row → List ℕ
weights basis rows = map (weight basis) rows

-- what a group has
abbrev pub has : Group → List Row → ℕ
has g rows = sum (weights (Of g) rows)

-- a row with a charge on its base, and with one on its reserve
abbrev pub base_charged : Row → ℕ → Row
base_charged r p = record { code = r.code; standing = r.standing; base = r.base - p; reserve = r.reserve; required = r.required; charged = r.charged + p }

abbrev pub reserve_charged : Row → ℕ → Row
reserve_charged r p = record { code = r.code; standing = r.standing; base = r.base; reserve = r.reserve - p; required = r.required; charged = r.charged + p }

-- a row with a charge on what of it is in the group, if anything can be
abbrev pub charged_in : Group → Row → ℕ → Row
charged_in OwnBase r p = cond (in_default r.standing) (base_charged r p) r
charged_in OwnReserve r p = cond (in_default r.standing) (reserve_charged r p) r
charged_in OtherBases r p = cond (in_default r.standing) r (base_charged r p)
charged_in OtherReserves r p = cond (in_default r.standing) r (reserve_charged r p)

-- the rows with their charges
abbrev pub charged_all : Group → List Row → List ℕ → List Row
charged_all g rows ps = by_parts (charged_in g) rows ps

-- what the groups that pay before it have
abbrev pub earlier : Group → List Row → ℕ
earlier OwnBase rows = 0
earlier OwnReserve rows = has OwnBase rows
earlier OtherBases rows = has OwnBase rows + has OwnReserve rows
earlier OtherReserves rows = has OwnBase rows + has OwnReserve rows + has OtherBases rows

-- a group pays all it can of what the earlier ones cannot,
abbrev pub pays : Group → List Row → ℕ → ℕ
pays g rows amount = min (amount - earlier g rows) (has g rows)

-- divided over its shares
abbrev pub levied : Group → ℕ → List Row → List Row
levied g n rows = charged_all g rows (parts_of n (weights (Of g) rows))

-- a group pays what it can of the rest, and new is what it leaves of the rows
pub record Levy (g : Group) (rest : ℕ) (rows : List Row) (paid : ℕ) (new : List Row) : Type 0 where
  pub most : paid ≡ min rest (has g rows)
  pub left : new ≡ levied g paid rows

-- the rows after a use
abbrev pub used_rows : List Row → ℕ → List Row
used_rows rows amount =
    levied OtherReserves (pays OtherReserves rows amount) (levied OtherBases (pays OtherBases rows amount) (levied OwnReserve (pays OwnReserve rows amount) (levied OwnBase (pays OwnBase rows amount) rows)))
