-- The defaulter's row is the one that stands as defaulting, and the charged figures sum to what the case charged.
use Rattle.std.proofs.Common.{◌≡◌, ℕ, ◌≤◌, Bool, true, false, ◌&&◌, eqb, List, [], ◌∷◌, ◌++◌, map, is_some, arith}
use Rattle.std.proofs.lemmas.Bool.Decides.{nat_tests}
use Rattle.book.specs.declared.rows.Row.{Row}
use Rattle.book.specs.declared.standings.Event.TheVariants.{OpenCase}
use Rattle.book.specs.declared.groups.Group.{Group}
use Rattle.book.specs.declared.groups.Group.TheVariants.{OwnBase, OwnReserve, OtherBases, OtherReserves}
use Rattle.book.specs.declared.groups.Basis.TheVariants.{Group as Of}
use Rattle.division.specs.Division.{parts_of}
use Rattle.book.specs.Groups.{in_default, weights, charged_in, levied, pays, used_rows}
use Rattle.book.specs.Standings.{next}
use Rattle.book.specs.Rows.{place, row_of, changed, without, standing_after, case_closed}
use Rattle.book.specs.Laws.{Unique}
use Rattle.book.proofs.Membership.{has_first, row_first, Each, each_by_parts, each_after}

-- while a case is open the row of its member, and no other, stands as defaulting; otherwise none does
abbrev pub Marked : Bool → ℕ → List Row → Type 0
Marked some d [] = Unit {0}
Marked some d (r ∷ rows) = (in_default r.standing ≡ (some && eqb r.code d)) × Marked some d rows

module _ (some : Bool) (d : ℕ) where
  pub marked_changed : (f : Row → Row) → ((r : Row) → (f r).code ≡ r.code) → ((r : Row) → (f r).standing ≡ r.standing) → (code : ℕ) (rows : List Row) → Marked some d rows → Marked some d (changed f rows code)
  marked_changed f same stays code [] m = m
  marked_changed f same stays code (r ∷ rows) m = grind (arith, nat_tests, same r, stays r, marked_changed f same stays code rows m.1)

  pub marked_without : (code : ℕ) (rows : List Row) → Marked some d rows → Marked some d (without rows code)
  marked_without code [] m = m
  marked_without code (r ∷ rows) m = grind (arith, nat_tests, marked_without code rows m.1)

  pub marked_more : (x : Row) → in_default x.standing ≡ (some && eqb x.code d) → (rows : List Row) → Marked some d rows → Marked some d (rows ++ x ∷ [])
  marked_more x e [] m = (e, tt)
  marked_more x e (r ∷ rows) m = (m.0, marked_more x e rows m.1)

  pub marked_each : (R : Row → Row → Type 0) → ((r t : Row) → R r t → t.code ≡ r.code) → ((r t : Row) → R r t → t.standing ≡ r.standing) → (rows ts : List Row) → Each R rows ts → Marked some d rows → Marked some d ts
  marked_each R same stays (r ∷ rows) (t ∷ ts) e m = grind (arith, same r t e.0, stays r t e.0, marked_each R same stays rows ts e.1 m.1)
  marked_each R same stays rows ts e m = grind arith

-- no row stands as defaulting: who the last defaulter was is of no account
pub unmarked : (c d : ℕ) (rows : List Row) → Marked false d rows → Marked false c rows
unmarked c d [] m = m
unmarked c d (r ∷ rows) m = grind (arith, unmarked c d rows m.1)

-- rows of other members than d
others_marked : (d : ℕ) (rows : List Row) → is_some (place rows d) ≡ false → Marked false d rows → Marked true d rows
others_marked d [] h m = m
others_marked d (r ∷ rows) h m = grind (arith, nat_tests, has_first r rows d, others_marked d rows)

pub marked_opened : (code : ℕ) (rows : List Row) → Unique rows → is_some (next (row_of rows code).standing OpenCase) ≡ true → Marked false code rows → Marked true code (changed (standing_after OpenCase) rows code)
marked_opened code [] u h m = m
marked_opened code (r ∷ rows) u h m = grind (arith, nat_tests, row_first r rows code, others_marked code rows, marked_opened code rows)

pub marked_closed : (d : ℕ) (rows : List Row) → Marked false d (map case_closed rows)
marked_closed d [] = tt
marked_closed d (r ∷ rows) = grind (arith, marked_closed d rows)

-- a row that a use charged
pub record Charged (r t : Row) : Type 0 where
  pub code : t.code ≡ r.code
  pub standing : t.standing ≡ r.standing
  pub required : t.required ≡ r.required
  pub base : t.base ≤ r.base

each_levied : (g : Group) (n : ℕ) (rows : List Row) → Each Charged rows (levied g n rows)
each_levied g n rows = each_by_parts Charged (λ r. grind arith) (charged_in g) (λ r p. grind arith) rows (parts_of n (weights (Of g) rows))

pub each_used : (rows : List Row) (amount : ℕ) → Each Charged rows (used_rows rows amount)
each_used rows amount =
    let both = each_after Charged (λ r t u a b. grind arith) in
    let two = both rows _ _ (each_levied OwnBase (pays OwnBase rows amount) rows) (each_levied OwnReserve (pays OwnReserve rows amount) _) in
    both rows _ _ (both rows _ _ two (each_levied OtherBases (pays OtherBases rows amount) _)) (each_levied OtherReserves (pays OtherReserves rows amount) _)
