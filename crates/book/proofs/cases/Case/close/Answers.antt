use Rattle.std.proofs.Common.{vec_items, refl, ap, ◌∙◌, rules}
use Rattle.book.specs.Rows.{charges}
use Rattle.book.specs.Calls.{Number}
use Rattle.book.proofs.Histories.{refused_goes_on, accepted_goes_on}
use Rattle.book.proofs.Shares.{none_charged}
use Rattle.book.proofs.cases.Case.close.Goals as goal

pub returns-then-is_none-clause-history : goal.returns-then-is_none-clause-history
returns-then-is_none-clause-history g c = refused_goes_on _ (search rules) refl refl

pub returns-clause-history : goal.returns-clause-history
returns-clause-history g c = accepted_goes_on _ Number (search rules) refl (search rules) (search rules)

pub invariant_of-book : goal.invariant_of-book
invariant_of-book g c = record { tally = ap charges c.close.ensures ∙ none_charged (vec_items c.args.book.now.table.rows) }
