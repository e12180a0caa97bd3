-- The checks of an update, one layer after the other.
use Rattle.std.proofs.Common.{◌≡◌, ℕ, false, not, List, [], ◌∷◌, ◌++◌, Ok, Err, sym, ap, ◌∙◌}
use Rattle.std.proofs.lemmas.Bool.{cond-false}
use Rattle.division.specs.declared.refusals.Refusal.{Refusal}
use Rattle.division.specs.Refusals.{Check, checked}
use Rattle.division.proofs.Checks.{checked_refused, checked_made, first_refuses, second_refuses, both_pass}
use Rattle.contribution.specs.declared.terms.Security.{Security}
use Rattle.contribution.specs.declared.terms.Trade.{Trade}
use Rattle.contribution.specs.declared.assessments.Assessment.{Assessment}
use Rattle.contribution.specs.Checks.{within}
use Rattle.contribution.specs.Steps.{calculated, renewed}
use Rattle.contribution.specs.Contribution as contribution
use Rattle.book.specs.declared.standings.Event.TheVariants.{Update}
use Rattle.book.specs.declared.rows.Row.{Row}
use Rattle.book.specs.Rows.{row_of}
use Rattle.book.specs.States.{State, no_row, forbidden, update_checks, updated_to}

module _ {V : Type 0} (s : State) (code : ℕ) (ss : List Security) (ts : List Trade) (m : ℕ) (v : V) (ok : not (within 10 9999 code) ≡ false) where
  cs : List Check
  cs = contribution.all_checks ss ts

  ds : List Check
  ds = no_row s code ∷ forbidden Update s code ∷ []

  past_code : checked (update_checks s code ss ts) v ≡ checked (cs ++ ds) v
  unfolding cs ds
  past_code = cond-false _ _ _ ok

  pub by_contribution : (r : Refusal) → Err r ≡ contribution.verdict ss ts m → Err r ≡ checked (update_checks s code ss ts) v
  unfolding cs
  by_contribution r e = first_refuses cs ds (contribution.assessment ss ts m) v r e ∙ sym past_code

  module _ (a : Assessment) (e : Ok a ≡ contribution.verdict ss ts m) where
    pub by_standing : (k : ℕ × Row) (r : Refusal) → Err r ≡ checked (no_row s code ∷ forbidden Update s code ∷ []) k → Err r ≡ checked (update_checks s code ss ts) v
    unfolding cs ds
    by_standing k r f = second_refuses cs ds (contribution.assessment ss ts m) v a r e (checked_refused ds k (tt {0}) r f) ∙ sym past_code

    pub accepted : (k i : ℕ × Row) → Ok i ≡ checked (no_row s code ∷ forbidden Update s code ∷ []) k → Ok v ≡ checked (update_checks s code ss ts) v
    unfolding cs ds
    accepted k i f = both_pass cs ds (contribution.assessment ss ts m) v a tt e (checked_made ds k i (tt {0}) f).1 ∙ sym past_code

pub required_is : (s : State) (code : ℕ) (ss : List Security) (ts : List Trade) (m : ℕ) (a : Assessment) → m ≡ (row_of s.rows code).required → Ok a ≡ contribution.verdict ss ts m → a.required ≡ updated_to s code ss ts
required_is s code ss ts m a here e =
    ap (λ x. x.required) (checked_made (contribution.all_checks ss ts) (contribution.assessment ss ts m) a (tt {0}) e).0 ∙ ap (renewed (calculated ss ts)) here
