use Rattle.std.proofs.Common.{◌≡◌, take}
use Rattle.book.specs.Rows.{credited}
use Rattle.book.proofs.sharing.credit.Given as goal

abbrev pub invariant-loop-i : goal.invariant-loop-i
invariant-loop-i l = l.rows ≡ credited l.initial.rows (take l.i l.parts)
