-- What the items of a list tell of an account.
use Rattle.std.specs.Prelude.{ℕ, List, [], ◌∷◌, None, Option}
use Rattle.std.specs.Option.{option_or}

-- the first balance that an item of the list tells for the account k
abbrev pub first_told : {X : Type 0} → (X → ℕ → Option ℕ) → List X → ℕ → Option ℕ
first_told tells [] k = None
first_told tells (x ∷ xs) k = option_or (tells x k) (first_told tells xs k)
