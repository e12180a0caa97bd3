-- The entries of a list house, and the balances that are read off them.
use Rattle.std.specs.Prelude.{ℕ, ◌+◌, ◌-◌, ◌≤◌, cond, List, None, fold, sum_by, Option, ◌==◌}
use Rattle.std.specs.Bool.{then_some}
use Rattle.std.specs.Option.{option_map}
use Rattle.houses.specs.declared.openings.Opening.{Opening as Told}
use Rattle.houses.specs.declared.entries.Entry.{Entry}
use Rattle.houses.specs.declared.entries.Entry.TheVariants.{Opening, Transfer}
use Rattle.houses.specs.Balances.{held, moved}
use Rattle.houses.specs.Lists.{first_told}

-- an account that is handed in, as an entry
abbrev pub entry_of : Told → Entry
entry_of o = Opening o.account o.balance

-- the balance that an entry opens the account k with
abbrev pub opens : Entry → ℕ → Option ℕ
opens (Opening n balance) k = then_some (k == n) balance
opens (Transfer from to amount) k = None

-- the opening balance of each account
abbrev pub opening : List Entry → ℕ → Option ℕ
opening es = first_told opens es

-- what an entry brings to the account k
abbrev pub brings : ℕ → Entry → ℕ
brings k (Opening n balance) = 0
brings k (Transfer from to amount) = cond (k == to) amount 0

-- what an entry takes from the account k
abbrev pub takes : ℕ → Entry → ℕ
takes k (Opening n balance) = 0
takes k (Transfer from to amount) = cond (k == from) amount 0

-- what an account had and got, before anything is taken off
abbrev pub had : List Entry → ℕ → ℕ
had es k = held (opening es k) + sum_by (brings k) es

-- no account paid out more than it had and got
abbrev pub Covered : List Entry → Type 0
Covered es = (k : ℕ) → sum_by (takes k) es ≤ had es k

-- each balance: the opening and what was paid in, less what was paid out
abbrev pub booked : List Entry → ℕ → Option ℕ
booked es k = option_map (λ n. n + sum_by (brings k) es - sum_by (takes k) es) (opening es k)

-- the balances with one more entry carried out
abbrev pub with_entry : (ℕ → Option ℕ) → Entry → ℕ → Option ℕ
with_entry b (Opening n balance) = b
with_entry b (Transfer from to amount) = moved b from to amount

-- the opening balances, with the transfers carried out in their order
abbrev pub carried : List Entry → ℕ → Option ℕ
carried es = fold with_entry (opening es) es
