-- The balances in a table of accounts.
use Rattle.std.specs.Prelude.{ℕ, List, Option, ◌==◌}
use Rattle.std.specs.Bool.{then_some}
use Rattle.houses.specs.declared.openings.Opening.{Opening}
use Rattle.houses.specs.declared.table.Account.{Account}
use Rattle.houses.specs.Lists.{first_told}

-- an account that is handed in, as a table keeps it
abbrev pub account_of : Opening → Account
account_of o = record { number = o.account; balance = o.balance }

-- the balance that the account has, if its number is k
abbrev pub has : Account → ℕ → Option ℕ
has a k = then_some (k == a.number) a.balance

-- the balance that is kept for each account
abbrev pub kept : List Account → ℕ → Option ℕ
kept xs = first_told has xs
