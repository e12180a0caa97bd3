-- Houses as they are seen from outside, and two of them that are asked for the same transfers.
use Rattle.std.specs.Prelude.{◌≡◌, ℕ, ◌+◌, Bool, ◌⊎◌, List, [], ◌∷◌, ◌++◌, length, take, IfErr, Err, Option, Result, ◌≢◌}
use Rattle.division.specs.declared.refusals.Refusal.{Refusal}
use Rattle.division.specs.Refusals.{answer, after}
use Rattle.houses.specs.declared.faults.Fault.{Fault}
use Rattle.houses.specs.declared.transfers.Transfer.{Transfer}
use Rattle.houses.specs.Refusals.{by_house, refusal}
use Rattle.houses.specs.Balances.{verdict, moved}

-- what a house is to those who ask it
pub record State : Type 0 where
  pub balances : ℕ → Option ℕ
  pub ready : Bool

-- the state of a house that tells its balances and its readiness so
abbrev pub seen : {S : Type 0} → (S → ℕ → Option ℕ) → (S → Bool) → S → State
seen balances ready x = record { balances = balances x; ready = ready x }

-- what a house in the state s has to answer to the transfer x
abbrev pub due : State → Transfer → Result (Unit {0}) Refusal
due s x = verdict s.ready s.balances x.from x.to x.amount

-- a house in the state s is asked for the transfer x, answers r, and is then in the state s'
pub record Asked (s : State) (x : Transfer) (r : Result (Unit {0}) Fault) (s' : State) : Type 0 where
  pub told : answer refusal r ≡ due s x
  pub left : s'.balances ≡ after r (moved s.balances x.from x.to x.amount) s.balances
  pub still : IfErr r (λ _. s'.ready ≡ s.ready)

-- houses in the states s and t answer all these transfers alike, and are then in the states s' and t'
pub data Alike (s t : State) : List Transfer → State → State → Type 0 where
  none : Alike s t [] s t
  more : {xs : List Transfer} {s' t' : State} (x : Transfer) (r : Result (Unit {0}) Fault) (s'' t'' : State)
      → Alike s t xs s' t' → Asked s' x r s'' → Asked t' x r t'' → Alike s t (xs ++ x ∷ []) s'' t''

-- of the transfers xs they answer the first n alike, and the one after these, if there is one, differently
pub data Compared (s t : State) (xs : List Transfer) (n : ℕ) (s' t' : State) : Type 0 where
  all_alike : n ≡ length xs → Alike s t xs s' t' → Compared s t xs n s' t'
  apart : (x : Transfer) (q r : Result (Unit {0}) Fault) (u v : State) → take (n + 1) xs ≡ take n xs ++ x ∷ []
      → Alike s t (take n xs) u v → Asked u x q s' → Asked v x r t' → (q ≢ r) → Compared s t xs n s' t'

-- either all were answered alike and the balances are the same, or one of the two is not ready for the next transfer
abbrev pub Told : List Transfer → ℕ → State → State → Type 0
Told xs n s' t' =
    ((n ≡ length xs) × (s'.balances ≡ t'.balances))
    ⊎ ((x : Transfer) × (take (n + 1) xs ≡ take n xs ++ x ∷ []) × ((due s' x ≡ Err (by_house 51)) ⊎ (due t' x ≡ Err (by_house 51))))
