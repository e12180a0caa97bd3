-- The accounts that a house is made with.
use Rattle.std.specs.Prelude.{ℕ, Bool, false, ◌||◌, List, [], ◌∷◌, length, is_some, Option, Result, ◌==◌, nat_lt}
use Rattle.std.specs.Bool.{then_some}
use Rattle.division.specs.declared.refusals.Refusal.{Refusal}
use Rattle.division.specs.Refusals.{clear}
use Rattle.houses.specs.declared.openings.Opening.{Opening}
use Rattle.houses.specs.Refusals.{by_house}
use Rattle.houses.specs.Lists.{first_told}

-- the balance that is handed in, for the account k
abbrev pub handed_in : Opening → ℕ → Option ℕ
handed_in o k = then_some (k == o.account) o.balance

-- the balance that is handed in for each account
abbrev pub opened : List Opening → ℕ → Option ℕ
opened os = first_told handed_in os

-- an account above 9,999, a balance above 10^15, or an account that is given once more
abbrev pub faulty : List Opening → Bool
faulty [] = false
faulty (o ∷ os) = nat_lt 9999 o.account || (nat_lt 1000000000000000 o.balance || (is_some (opened os o.account) || faulty os))

-- whether a house can be made with these accounts, of which it takes so many at most
abbrev pub openings_verdict : List Opening → ℕ → Result (Unit {0}) Refusal
openings_verdict os most = clear ((nat_lt most (length os), by_house 19) ∷ (faulty os, by_house 26) ∷ [])

-- whether a table house can be made, and if not why
abbrev pub table_verdict : List Opening → Result (Unit {0}) Refusal
table_verdict os = openings_verdict os 128

-- whether a list house of so many entries can be made, and if not why
abbrev pub list_verdict : List Opening → ℕ → Result (Unit {0}) Refusal
list_verdict os room = clear ((nat_lt 1024 room || nat_lt room (length os), by_house 19) ∷ (faulty os, by_house 26) ∷ [])
