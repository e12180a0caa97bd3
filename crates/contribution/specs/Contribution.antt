-- What a contribution answers.
use Rattle.std.specs.Prelude.{ℕ, ◌-◌, ◌||◌, List, [], ◌∷◌, ◌++◌, map, length, replicate, Result, nat_lt}
use Rattle.division.specs.declared.refusals.Refusal.{Refusal}
use Rattle.division.specs.Refusals.{Check, checked}
use Rattle.contribution.specs.declared.terms.Security.{Security}
use Rattle.contribution.specs.declared.terms.Trade.{Trade}
use Rattle.contribution.specs.declared.positions.Position.{Position}
use Rattle.contribution.specs.declared.assessments.Assessment.{Assessment}
use Rattle.contribution.specs.Refusals.{by_contribution}
use Rattle.contribution.specs.Checks.{securities_checks, trades_checks}
use Rattle.contribution.specs.Steps.{provisional, calculated, renewed}
use Rattle.contribution.specs.Positions.{flat, position}

-- how many there are, each security, each trade, and then W
abbrev pub checks : ℕ → ℕ → List Security → List Trade → List Check
checks securities trades ss ts =
    (nat_lt securities (length ss) || nat_lt trades (length ts), by_contribution 19 0)
    ∷ (securities_checks ss ++ (trades_checks ss ts ++ ((nat_lt 1000000000 (calculated ss ts), by_contribution 20 0) ∷ [])))

-- within the clearing house's limits
abbrev pub all_checks : List Security → List Trade → List Check
all_checks ss ts = checks 64 128 ss ts

-- the positions in the securities, in their order and flat past them, in a list of n
abbrev pub positions : ℕ → List Security → List Trade → List Position
positions n ss ts = map (λ s. position s ts) ss ++ replicate (n - length ss) flat

abbrev pub assessment : List Security → List Trade → ℕ → Assessment
assessment ss ts m =
    record {
      positions = positions 64 ss ts;
      provisional = provisional ss ts;
      calculated = calculated ss ts;
      required = renewed (calculated ss ts) m;
    }

abbrev pub verdict : List Security → List Trade → ℕ → Result Assessment Refusal
verdict ss ts m = checked (all_checks ss ts) (assessment ss ts m)
