use Rattle.std.proofs.Common.{refl, rules}
use Rattle.book.specs.Calls.{Amount}
use Rattle.book.proofs.Histories.{refused_goes_on, accepted_goes_on, stops}
use Rattle.book.proofs.books.Book.other_transfer.Goals as goal

pub returns-then-from-eq-FUND-clause-history : goal.returns-then-from-eq-FUND-clause-history
returns-then-from-eq-FUND-clause-history g c = refused_goes_on _ (search rules) refl refl

pub returns-in_err-transfer-clause-history : goal.returns-in_err-transfer-clause-history
returns-in_err-transfer-clause-history g c = stops _ _ _ c.from_residual.ensures.1 _ (search rules) (search rules) (search rules)

pub returns-clause-history : goal.returns-clause-history
returns-clause-history g c = accepted_goes_on _ Amount (search rules) refl (search rules) (search rules)
