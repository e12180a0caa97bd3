use Rattle.std.proofs.Common.{◌≡◌}
use Rattle.book_tests.specs.Holding.{open_number}
use Rattle.book_tests.proofs.strangers.show.Given as goal

abbrev pub invariant-loop-i : goal.invariant-loop-i
invariant-loop-i g l = open_number l.book.case ≡ open_number l.initial.book.case
