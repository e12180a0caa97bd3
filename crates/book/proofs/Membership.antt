-- Whose rows a book has, and what a change of the rows does to that.
use Rattle.std.proofs.Common.{◌≡◌, ℕ, suc, ◌+◌, true, false, cond, eqb, ◌⊎◌, List, [], ◌∷◌, ◌++◌, map, is_some, Some, None, sum_by, sym, refl, ap, ◌∙◌, inl, inr, add-zero, arith}
use Rattle.std.specs.List.{position_from}
use Rattle.std.proofs.lemmas.List.Sums.{sum_by-cons}
use Rattle.std.proofs.lemmas.Bool.{cond-true, cond-false, cases_Bool, false≢true}
use Rattle.std.proofs.lemmas.Bool.Decides.{nat_tests}
use Rattle.book.specs.declared.rows.Row.{Row}
use Rattle.book.specs.Rows.{place, row_of, changed, without, by_parts}
use Rattle.book.specs.Laws.{Unique}

-- where a row stands does not depend on where the count begins
spot : (rows : List Row) (code : ℕ) → ((j : ℕ) → position_from (λ r. eqb r.code code) j rows ≡ None) ⊎ ((k : ℕ) × ((j : ℕ) → position_from (λ r. eqb r.code code) j rows ≡ Some (j + k)))
spot [] code = inl (λ j. refl)
spot (r ∷ rows) code =
    elim (cases_Bool (eqb r.code code)) [
      | inl t ↦ inr (0, λ j. cond-true _ _ _ t ∙ ap Some (sym (add-zero j)))
      | inr t ↦ elim (spot rows code) [
        | inl none ↦ inl (λ j. cond-false _ _ _ t ∙ none (j + 1))
        | inr some ↦ inr (suc some.0, λ j. cond-false _ _ _ t ∙ some.1 (j + 1) ∙ ap Some (omega arith))
      ]
    ]

-- whether a member has a row, and which, told by the first row and the rest
pub has_first : (r : Row) (rows : List Row) (code : ℕ) → is_some (place (r ∷ rows) code) ≡ cond (eqb r.code code) true (is_some (place rows code))
has_first r rows code = elim (spot rows code) [ inl none ↦ grind (arith, nat_tests, none 1, none 0) | inr some ↦ grind (arith, nat_tests, some.1 1, some.1 0) ]

pub row_first : (r : Row) (rows : List Row) (code : ℕ) → row_of (r ∷ rows) code ≡ cond (eqb r.code code) r (row_of rows code)
row_first r rows code = elim (spot rows code) [ inl none ↦ grind (arith, nat_tests, none 1, none 0) | inr some ↦ grind (arith, nat_tests, some.1 1, some.1 0) ]

-- what the change of one member's row does: f leaves the code as it is
module _ (f : Row → Row) (same : (r : Row) → (f r).code ≡ r.code) (code : ℕ) where
  pub has_changed : (rows : List Row) (m : ℕ) → is_some (place (changed f rows code) m) ≡ is_some (place rows m)
  has_changed [] m = grind arith
  has_changed (r ∷ rows) m = grind (arith, nat_tests, has_first, has_changed rows m, same r)

  pub unique_changed : (rows : List Row) → Unique rows → Unique (changed f rows code)
  unique_changed [] u = u
  unique_changed (r ∷ rows) u = grind (arith, nat_tests, same r, has_changed rows r.code, unique_changed rows)

  -- the member's own row, and those of the others
  pub row_changed : (rows : List Row) → is_some (place rows code) ≡ true → row_of (changed f rows code) code ≡ f (row_of rows code)
  row_changed [] h = absurd (false≢true h)
  row_changed (r ∷ rows) h = grind (arith, nat_tests, row_first (f r) rows code, row_first r rows code, row_first r (changed f rows code) code, has_first r rows code, same r, row_changed rows)

  pub row_unchanged : (rows : List Row) (m : ℕ) → eqb code m ≡ false → row_of (changed f rows code) m ≡ row_of rows m
  row_unchanged [] m ne = refl
  row_unchanged (r ∷ rows) m ne = grind (arith, nat_tests, row_first, same r, row_unchanged rows m ne)

  -- a sum over the rows
  pub sum_changed : (g : Row → ℕ) (rows : List Row) → is_some (place rows code) ≡ true → sum_by g (changed f rows code) + g (row_of rows code) ≡ sum_by g rows + g (f (row_of rows code))
  sum_changed g [] h = absurd (false≢true h)
  sum_changed g (r ∷ rows) h = grind (arith, nat_tests, sum_by-cons g (f r) rows, sum_by-cons g r rows, sum_by-cons g r (changed f rows code), row_first r rows code, has_first r rows code, sum_changed g rows)

-- what taking one member's row out does
module _ (code : ℕ) where
  pub has_without : (rows : List Row) (m : ℕ) → eqb code m ≡ false → is_some (place (without rows code) m) ≡ is_some (place rows m)
  has_without [] m ne = refl
  has_without (r ∷ rows) m ne = grind (arith, nat_tests, has_first r rows m, has_first r (without rows code) m, has_without rows m ne)

  pub gone : (rows : List Row) → Unique rows → is_some (place (without rows code) code) ≡ false
  gone [] u = refl
  gone (r ∷ rows) u = grind (arith, nat_tests, has_first r (without rows code) code, gone rows u.1)

  pub unique_without : (rows : List Row) → Unique rows → Unique (without rows code)
  unique_without [] u = u
  unique_without (r ∷ rows) u = grind (arith, nat_tests, has_without rows r.code, unique_without rows u.1)

  pub row_without : (rows : List Row) (m : ℕ) → eqb code m ≡ false → row_of (without rows code) m ≡ row_of rows m
  row_without [] m ne = refl
  row_without (r ∷ rows) m ne = grind (arith, nat_tests, row_first, row_without rows m ne)

  pub sum_without : (g : Row → ℕ) (rows : List Row) → is_some (place rows code) ≡ true → sum_by g (without rows code) + g (row_of rows code) ≡ sum_by g rows
  sum_without g [] h = absurd (false≢true h)
  sum_without g (r ∷ rows) h = grind (arith, nat_tests, sum_by-cons g r rows, sum_by-cons g r (without rows code), row_first r rows code, has_first r rows code, sum_without g rows)

-- what a row more at the end does
module _ (x : Row) where
  pub has_more : (rows : List Row) (m : ℕ) → is_some (place (rows ++ x ∷ []) m) ≡ cond (is_some (place rows m)) true (eqb x.code m)
  has_more [] m = grind (arith, nat_tests)
  has_more (r ∷ rows) m = grind (arith, nat_tests, has_first r (rows ++ x ∷ []) m, has_first r rows m, has_more rows m)

  pub unique_more : (rows : List Row) → is_some (place rows x.code) ≡ false → Unique rows → Unique (rows ++ x ∷ [])
  unique_more [] h u = (refl, tt)
  unique_more (r ∷ rows) h u = grind (arith, nat_tests, has_first r rows x.code, has_more rows r.code, unique_more rows)

  pub row_more : (rows : List Row) (m : ℕ) → is_some (place rows m) ≡ true → row_of (rows ++ x ∷ []) m ≡ row_of rows m
  row_more [] m h = absurd (false≢true h)
  row_more (r ∷ rows) m h = grind (arith, nat_tests, row_first r (rows ++ x ∷ []) m, row_first r rows m, has_first r rows m, row_more rows m)

  pub row_new : (rows : List Row) → is_some (place rows x.code) ≡ false → row_of (rows ++ x ∷ []) x.code ≡ x
  row_new [] h = grind (arith, nat_tests, row_first x [] x.code)
  row_new (r ∷ rows) h = grind (arith, nat_tests, row_first r (rows ++ x ∷ []) x.code, has_first r rows x.code, row_new rows)

-- a change of every row by itself
abbrev pub Each : (Row → Row → Type 0) → List Row → List Row → Type 0
Each R [] [] = Unit {0}
Each R [] (t ∷ ts) = ⊥
Each R (r ∷ rows) [] = ⊥
Each R (r ∷ rows) (t ∷ ts) = R r t × Each R rows ts

module _ (R : Row → Row → Type 0) (stays : (r : Row) → R r r) where
  each_stays : (rows : List Row) → Each R rows rows
  each_stays [] = tt
  each_stays (r ∷ rows) = (stays r, each_stays rows)

  pub each_by_parts : (f : Row → ℕ → Row) → ((r : Row) (p : ℕ) → R r (f r p)) → (rows : List Row) (ps : List ℕ) → Each R rows (by_parts f rows ps)
  each_by_parts f one rows [] = each_stays rows
  each_by_parts f one [] (p ∷ ps) = tt
  each_by_parts f one (r ∷ rows) (p ∷ ps) = (one r p, each_by_parts f one rows ps)

pub each_after : (R : Row → Row → Type 0) → ((r t u : Row) → R r t → R t u → R r u) → (rows ts us : List Row) → Each R rows ts → Each R ts us → Each R rows us
each_after R both (r ∷ rows) (t ∷ ts) (u ∷ us) e f = (both r t u e.0 f.0, each_after R both rows ts us e.1 f.1)
each_after R both rows ts us e f = grind arith

module _ (R : Row → Row → Type 0) (same : (r t : Row) → R r t → t.code ≡ r.code) where
  pub has_each : (rows ts : List Row) → Each R rows ts → (m : ℕ) → is_some (place ts m) ≡ is_some (place rows m)
  has_each (r ∷ rows) (t ∷ ts) e m = grind (arith, nat_tests, has_first t ts m, same r t e.0, has_each rows ts e.1 m, has_first r rows m)
  has_each rows ts e m = grind arith

  pub codes_each : (rows ts : List Row) → Each R rows ts → map (λ r. r.code) ts ≡ map (λ r. r.code) rows
  codes_each (r ∷ rows) (t ∷ ts) e = cc (same r t e.0, codes_each rows ts e.1)
  codes_each rows ts e = grind arith

  pub unique_each : (rows ts : List Row) → Each R rows ts → Unique rows → Unique ts
  unique_each (r ∷ rows) (t ∷ ts) e u = grind (arith, has_each rows ts e.1 t.code, same r t e.0, unique_each rows ts e.1)
  unique_each rows ts e u = grind arith

  pub row_each : (rows ts : List Row) → Each R rows ts → (m : ℕ) → is_some (place rows m) ≡ true → R (row_of rows m) (row_of ts m)
  row_each (r ∷ rows) (t ∷ ts) e m h = grind (arith, nat_tests, row_first r rows m, row_first t ts m, same r t e.0, has_first r rows m, row_each rows ts e.1 m)
  row_each rows ts e m h = grind arith
