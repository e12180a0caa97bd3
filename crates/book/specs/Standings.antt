-- What becomes of a standing.
use Rattle.std.specs.Prelude.{Some, None, Option}
use Rattle.book.specs.declared.rows.Standing.{Standing}
use Rattle.book.specs.declared.rows.Standing.TheVariants.{Active, Defaulting, Barred}
use Rattle.book.specs.declared.standings.Event.{Event}
use Rattle.book.specs.declared.standings.Event.TheVariants.{Update, Regulate, OpenCase, CloseCase}

-- the standing after a call, none where the standing forbids the call
abbrev pub next : Standing → Event → Option Standing
next Active Update = Some Active
next Active Regulate = Some Active
next Active OpenCase = Some Defaulting
next Active CloseCase = Some Active
next Defaulting Update = None
next Defaulting Regulate = None
next Defaulting OpenCase = None
next Defaulting CloseCase = Some Barred
next Barred Update = None
next Barred Regulate = None
next Barred OpenCase = None
next Barred CloseCase = Some Barred
