use Rattle.std.proofs.Common.{◌≡◌}
use Rattle.book_tests.proofs.asking.look.Given as goal

abbrev pub invariant-loop-seen : goal.invariant-loop-seen
invariant-loop-seen g l = l.book.case ≡ l.initial.book.case
