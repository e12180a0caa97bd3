-- Books that are alike part by part.
use Rattle.std.proofs.Common.{◌≡◌, ℕ, List, Option}
use Rattle.book.specs.declared.rows.Row.{Row}
use Rattle.book.specs.declared.rows.OpenCase.{OpenCase}
use Rattle.book.specs.States.{State}

pub alike : {rows ts : List Row} {c d : Option OpenCase} {n : ℕ} {a b : ℕ → Option ℕ} → rows ≡ ts → c ≡ d → a ≡ b →
    ◌≡◌ {A = State} (record { rows = rows; case = c; opened = n; balances = a }) (record { rows = ts; case = d; opened = n; balances = b })
alike {n = n} r c b = λ i. record { rows = r i; case = c i; opened = n; balances = b i }
