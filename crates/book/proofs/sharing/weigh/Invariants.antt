use Rattle.std.proofs.Common.{◌≡◌, take}
use Rattle.book.specs.Groups.{weights}
use Rattle.book.proofs.sharing.weigh.Given as goal

abbrev pub invariant-loop-i : goal.invariant-loop-i
invariant-loop-i l = take l.i l.list ≡ weights l.basis (take l.i l.rows)
