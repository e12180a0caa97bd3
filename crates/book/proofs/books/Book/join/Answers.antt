use Rattle.std.proofs.Common.{rules, refl}
use Rattle.book.specs.Calls.{Amount}
use Rattle.book.proofs.Histories.{stops, accepted_goes_on}
use Rattle.book.proofs.books.Book.join.Goals as goal

pub returns-in_err-admits-clause-history : goal.returns-in_err-admits-clause-history
returns-in_err-admits-clause-history g c = stops _ _ _ c.from_residual.ensures.1 _ (search rules) (search rules) (search rules)

pub returns-in_err-transfer-clause-history : goal.returns-in_err-transfer-clause-history
returns-in_err-transfer-clause-history g c = stops _ _ _ c.from_residual-in_err-transfer.ensures.1 _ (search rules) (search rules) (search rules)

pub returns-clause-history : goal.returns-clause-history
returns-clause-history g c = accepted_goes_on _ Amount (search rules) refl (search rules) (search rules)
