-- The balances of a house, by account number, and what a transfer does to them. An account that a house does not have has none.
use Rattle.std.specs.Prelude.{◌≡◌, ℕ, zero, suc, ◌+◌, ◌-◌, ◌≤◌, Bool, true, cond, not, ◌&&◌, ◌||◌, List, [], ◌∷◌, is_some, Some, None, Ok, Err, Option, Result, ◌==◌, nat_lt}
use Rattle.std.specs.Option.{unwrap_or}
use Rattle.division.specs.declared.refusals.Refusal.{Refusal}
use Rattle.division.specs.Refusals.{Check, clear}
use Rattle.houses.specs.Refusals.{by_house}

-- the money in an account, none where there is no account
abbrev pub held : Option ℕ → ℕ
held b = unwrap_or b 0

-- accounts have numbers up to 9,999 and balances up to 10^15
pub record Sound (b : ℕ → Option ℕ) : Type 0 where
  pub numbers : (k : ℕ) → is_some (b k) ≡ true → k ≤ 9999
  pub amounts : (k : ℕ) → held (b k) ≤ 1000000000000000

-- the same accounts with the same money
pub record Same (b c : ℕ → Option ℕ) : Type 0 where
  pub accounts : (k : ℕ) → is_some (b k) ≡ is_some (c k)
  pub amounts : (k : ℕ) → held (b k) ≡ held (c k)

-- the checks of a transfer in a house with the balances b, in order
abbrev pub checks : Bool → (ℕ → Option ℕ) → ℕ → ℕ → ℕ → List Check
checks ready b from to amount =
    (amount == 0 || nat_lt 4000000000 amount, by_house 12)
    ∷ (from == to, by_house 22)
    ∷ (not ready, by_house 51)
    ∷ (not (is_some (b from) && is_some (b to)), by_house 52)
    ∷ (nat_lt (held (b from)) amount, by_house 53)
    ∷ (nat_lt 1000000000000000 (held (b to) + amount), by_house 54) ∷ []

-- whether the transfer can be made, and if not why
abbrev pub verdict : Bool → (ℕ → Option ℕ) → ℕ → ℕ → ℕ → Result (Unit {0}) Refusal
verdict ready b from to amount = clear (checks ready b from to amount)

-- the balances with another one for the account n
abbrev pub rewritten : (ℕ → Option ℕ) → ℕ → ℕ → ℕ → Option ℕ
rewritten b n balance k = cond (k == n) (Some balance) (b k)

-- the balances after a transfer: the payer has the amount less, the receiver the amount more, the others what they had
abbrev pub moved : (ℕ → Option ℕ) → ℕ → ℕ → ℕ → ℕ → Option ℕ
moved b from to amount k =
    cond (k == from) (Some (held (b from) - amount)) (cond (k == to) (Some (held (b to) + amount)) (b k))

-- what a question for a balance answers
abbrev pub told : Option ℕ → Result ℕ Refusal
told None = Err (by_house 52)
told (Some n) = Ok n

-- the money in the accounts below n
unfoldable pub below : ℕ → (ℕ → Option ℕ) → ℕ
below zero b = 0
below (suc n) b = below n b + held (b n)

-- the money in all accounts
abbrev pub money : (ℕ → Option ℕ) → ℕ
money b = below 10000 b
