-- What holds of the rows of every book: one to a member, one defaulter, and charged figures that sum to what the case charged.
use Rattle.std.proofs.Common.{◌≡◌, ℕ, true, List, [], ◌∷◌, map, is_some, Some, None, sum_by, Option, refl, arith}
use Rattle.std.proofs.lemmas.List.Sums.{sum_by-cons, sum_by_push}
use Rattle.std.proofs.lemmas.Bool.Decides.{nat_tests}
use Rattle.book.specs.declared.rows.Row.{Row}
use Rattle.book.specs.declared.rows.OpenCase.{OpenCase as Open}
use Rattle.book.specs.declared.standings.Event.TheVariants as event
use Rattle.book.specs.Rows.{credit, place, changed, credited, required_as, based_as_required, standing_after, case_closed}
use Rattle.book.specs.States.{State, newcomer, updated_to, is_open, charged_of}
use Rattle.book.specs.Calls.{Call, Join, Update, Regulate, Income, OpenCase, Use, Recover, Close, Leave, OtherTransfer, effect}
use Rattle.book.proofs.Shares.{none_charged}
use Rattle.book.specs.Laws.{Unique, accused}
use Rattle.book.proofs.Membership.{Each, each_by_parts, has_changed, unique_changed, sum_changed, unique_without, sum_without, has_more, unique_more, has_each, unique_each}
use Rattle.book.proofs.Defaults.{Marked, Charged, each_used, marked_changed, marked_without, marked_more, marked_each, unmarked, marked_opened, marked_closed}
use Rattle.book.proofs.Levies.{use_sums}
use Rattle.book.proofs.Money.{Tallied}
use Rattle.book.proofs.Accepted.{Tells}

-- the open case, or none
pub open_is_some : (c : Option Open) (n : ℕ) → is_open c n ≡ true → is_some c ≡ true
open_is_some None n h = h
open_is_some (Some c) n h = refl

-- d is the member of the last case
pub record Ordered (d : ℕ) (s : State) : Type 0 where
  pub unique : Unique s.rows
  pub marked : Marked (is_some s.case) d s.rows
  pub present : is_some s.case ≡ true → is_some (place s.rows d) ≡ true
  pub tally : Tallied s

-- a row that only had its reserve credited
pub record Credited (r t : Row) : Type 0 where
  pub code : t.code ≡ r.code
  pub standing : t.standing ≡ r.standing
  pub base : t.base ≡ r.base
  pub required : t.required ≡ r.required
  pub charged : t.charged ≡ r.charged

pub each_credited : (rows : List Row) (ps : List ℕ) → Each Credited rows (credited rows ps)
each_credited rows ps = each_by_parts Credited (λ r. grind arith) credit (λ r p. grind arith) rows ps

-- a row of a case that is over
pub record Closed (r t : Row) : Type 0 where
  pub code : t.code ≡ r.code
  pub base : t.base ≡ r.base
  pub required : t.required ≡ r.required

pub each_closed : (rows : List Row) → Each Closed rows (map case_closed rows)
each_closed [] = tt
each_closed (r ∷ rows) = grind (arith, each_closed rows)

-- a sum over rows none of which changes what is summed
pub sum_each : (R : Row → Row → Type 0) (g : Row → ℕ) → ((r t : Row) → R r t → g t ≡ g r) → (rows ts : List Row) → Each R rows ts → sum_by g ts ≡ sum_by g rows
sum_each R g same (r ∷ rows) (t ∷ ts) e = grind (arith, sum_by-cons g t ts, sum_by-cons g r rows, same r t e.0, sum_each R g same rows ts e.1)
sum_each R g same rows ts e = grind arith

module _ (d : ℕ) (s : State) (was : Ordered d s) where
  -- a change of one row that touches neither code, standing nor charged
  order_changed : (f : Row → Row) → ((r : Row) → (f r).code ≡ r.code) → ((r : Row) → (f r).standing ≡ r.standing) → ((r : Row) → (f r).charged ≡ r.charged) →
      (code : ℕ) → is_some (place s.rows code) ≡ true → (b : ℕ → Option ℕ) → Ordered d (record { rows = changed f s.rows code; case = s.case; opened = s.opened; balances = b })
  order_changed f same stays charged code h b = grind (arith, unique_changed f same, marked_changed (is_some s.case) d f same stays, has_changed f same, sum_changed f same code (λ r. r.charged), charged)

  order_credited : (ps : List ℕ) (c : Option Open) → is_some c ≡ is_some s.case → charged_of c ≡ charged_of s.case → (b : ℕ → Option ℕ) → Ordered d (record { rows = credited s.rows ps; case = c; opened = s.opened; balances = b })
  order_credited ps c same charged b =
      let each = each_credited s.rows ps in
      grind (arith, unique_each Credited (λ r t x. x.code) s.rows _ each, marked_each (is_some s.case) d Credited (λ r t x. x.code) (λ r t x. x.standing) s.rows _ each, has_each Credited (λ r t x. x.code) s.rows _ each d, sum_each Credited (λ r. r.charged) (λ r t x. x.charged) s.rows _ each)

  pub order : (k : Call) → Tells k s → Ordered (accused k d) (effect k s)
  order (Join code) t = grind (arith, nat_tests, unique_more (newcomer code) s.rows, marked_more (is_some s.case) d (newcomer code), has_more (newcomer code) s.rows d, sum_by_push (λ (r : Row). r.charged) s.rows (newcomer code))
  order (Update code ss ts) t = order_changed (required_as (updated_to s code ss ts)) (λ r. refl) (λ r. refl) (λ r. refl) code t s.balances
  order (Regulate code) t = order_changed based_as_required (λ r. refl) (λ r. refl) (λ r. refl) code t.1 _
  order (Income n) t = order_credited _ s.case refl refl _
  order (OpenCase code) t =
      let f = standing_after event.OpenCase in
      grind (arith, unmarked code d s.rows, unique_changed f (λ r. refl) code s.rows, marked_opened code s.rows, has_changed f (λ r. refl) code s.rows code, sum_changed f (λ r. refl) code (λ r. r.charged) s.rows)
  order (Use k n) t =
      let each = each_used s.rows n in
      grind (arith, unique_each Charged (λ r t x. x.code) s.rows _ each, marked_each (is_some s.case) d Charged (λ r t x. x.code) (λ r t x. x.standing) s.rows _ each, has_each Charged (λ r t x. x.code) s.rows _ each d, use_sums s.rows n)
  order (Recover k n) t = order_credited _ _ (grind arith) (grind arith) _
  order (Close k) t = grind (arith, unique_each Closed (λ r t x. x.code) s.rows (map case_closed s.rows) (each_closed s.rows), marked_closed d s.rows, none_charged s.rows)
  order (Leave code) t = grind (arith, unique_without code s.rows, marked_without (is_some s.case) d code s.rows, sum_without code (λ r. r.charged) s.rows)
  order (OtherTransfer from to n) t = grind arith
