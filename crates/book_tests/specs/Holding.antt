-- The case that someone holds, and the one that is open.
use Rattle.std.specs.Prelude.{◌≡◌, ℕ, Some, None, Option}
use Rattle.std.specs.Option.{ForSome}
use Rattle.book.specs.declared.cases.Case.{Case}
use Rattle.book.specs.declared.rows.OpenCase.{OpenCase as Open}

abbrev pub open_number : Option Open → Option ℕ
open_number None = None
open_number (Some c) = Some c.number

-- where a case is held it is the open one
abbrev pub Holding : Option Case → Option Open → Type 0
Holding held o = ForSome held (λ c. open_number o ≡ Some c.number)
