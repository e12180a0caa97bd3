-- A desk as a day, and what its steps leave and print.
use Rattle.std.specs.Prelude.{◌≡◌, ℕ, List, ◌++◌, Some, None, Ok, Err, vec_items, string_bytes, Option, Result}
use Rattle.std.specs.Option.{option_map}
use Rattle.std.specs.Result.{result_ok}
use Rattle.houses.specs.Table.{kept}
use Rattle.houses.specs.declared.cash.House.{Ghosts}
use Rattle.houses.specs.declared.table_house.TableHouse.{TableHouse}
use Rattle.book.specs.Books.{view}
use Rattle.book.specs.States.{State}
use Rattle.book.specs.declared.books.Book.{Book}
use Rattle.sheet.specs.declared.desks.Desk.{Desk}
use Rattle.sheet.specs.declared.entries.Output.{Output}
use Rattle.division.specs.declared.refusals.Refusal.{Refusal}
use Rattle.houses.specs.declared.openings.Opening.{Opening}
use Rattle.sheet.specs.declared.faults.Fault.{Fault}
use Rattle.sheet.specs.declared.faults.Fault.TheVariants.{BadLine}
use Rattle.sheet.specs.declared.faults.Stop.{Stop}
use Rattle.sheet.specs.declared.heading.Head.{Head}
use Rattle.sheet.specs.Lines.{Item, Account, Listed, Traded, Asked, BadAccount, Bad, items}
use Rattle.sheet.specs.Days.{Day, Taken, GoesOn, Stops, stopped, no_book, opens, opening, new_day}

-- a book above a table house
abbrev pub ledger : {house : Ghosts TableHouse} → Book TableHouse house → State
ledger b = view (λ h. kept (vec_items h.accounts)) b

abbrev pub day_of : Desk → Day
day_of d = record { book = ledger d.book; securities = vec_items d.securities.list; trades = vec_items d.trades.list }

-- what was printed, unless memory ran out
abbrev pub shown : Output → Option (List ℕ)
shown o = option_map string_bytes (result_ok o.text)

-- o with the text behind what it shows, unless memory ran out
abbrev pub Written : Output → List ℕ → Output → Type 0
Written o text p = (t : List ℕ) → shown p ≡ Some t → (s : List ℕ) × (shown o ≡ Some s) × (t ≡ s ++ text)

-- what a line was taken for: the fault that stops the run, the day after it, and what was printed
abbrev pub Took : Taken → Result (Unit {0}) Fault → Day → Day → Output → Output → Type 0
Took (GoesOn text e) went d f o p = (went ≡ Ok tt) × (f ≡ e) × Written o text p
Took (Stops x) went d f o p = (went ≡ Err x) × (f ≡ d) × (p ≡ o)

-- a desk over a house with the accounts os, or the refusal
abbrev pub Opened : List Opening → Result Desk Refusal → Type 0
Opened os (Ok d) = (opens os ≡ Ok tt) × (day_of d ≡ new_day os)
Opened os (Err x) = opens os ≡ Err x

-- the account in a line of the head, if it is one; a line of an account that is not well formed stops the run
abbrev pub in_head : Item → Result (Option Opening) Fault
in_head (Account a) = Ok (Some a)
in_head (Listed s) = Ok None
in_head (Traded code t) = Ok None
in_head (Asked q) = Ok None
in_head BadAccount = Err BadLine
in_head Bad = Ok None

-- what is printed, by the head: that of the opening and the lines below, or of the stop
abbrev pub Headed : List ℕ → Result Head Stop → Type 0
Headed out (Ok h) = out ≡ opening h.lines.number (vec_items h.accounts.list) (items h.lines.lines.rest.now)
Headed out (Err stop) = out ≡ stopped stop.line stop.fault ++ no_book
