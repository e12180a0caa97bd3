-- A book as a state.
use Rattle.std.specs.Prelude.{ℕ, vec_items, Option}
use Rattle.houses.specs.declared.cash.House.{Ghosts}
use Rattle.book.specs.declared.books.Book.{Book}
use Rattle.book.specs.States.{State}

abbrev pub view : {C : Type 0} {house : Ghosts C} → (C → ℕ → Option ℕ) → Book C house → State
view balances b = record { rows = vec_items b.table.rows; case = b.case; opened = b.opened; balances = balances b.house }
