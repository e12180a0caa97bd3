use Rattle.std.proofs.Common.{◌≡◌, take}
use Rattle.book.specs.Groups.{charged_all}
use Rattle.book.proofs.charging.charge.Given as goal

abbrev pub invariant-loop-i : goal.invariant-loop-i
invariant-loop-i l = l.rows ≡ charged_all l.group l.initial.rows (take l.i l.parts)
