use Rattle.std.proofs.Common.{◌≡◌, ◌++◌, map, take, drop}
use Rattle.book.specs.Rows.{case_closed}
use Rattle.book.proofs.table.close.Given as goal

abbrev pub invariant-loop-row : goal.invariant-loop-row
invariant-loop-row l = l.rows ≡ map case_closed (take l.row-index l.initial.rows) ++ drop l.row-index l.initial.rows
