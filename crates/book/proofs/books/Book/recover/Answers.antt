use Rattle.std.proofs.lemmas.Bool.Decides.{nat_tests}
use Rattle.std.proofs.Common.{refl, rules, arith}
use Rattle.division.proofs.Checks.{second_refuses}
use Rattle.houses.specs.Balances.{checks}
use Rattle.book.specs.States.{recovery}
use Rattle.book.specs.Calls.{Amount}
use Rattle.book.specs.Books.{view}
use Rattle.book.proofs.Histories.{told, stops, accepted_goes_on}
use Rattle.book.proofs.books.Book.recover.Goals as goal

pub returns-in_err-next-clause-history : goal.returns-in_err-next-clause-history
returns-in_err-next-clause-history g c = stops _ _ _ c.from_residual.ensures.1 _ (grind (arith, nat_tests)) refl refl

pub returns-in_err-receive-clause-history : goal.returns-in_err-receive-clause-history
returns-in_err-receive-clause-history g c = stops _ _ _ c.from_residual-in_err-receive.ensures.1 _ (search rules) (search rules) (search rules)

pub returns-in_err-receive-clause-answer : goal.returns-in_err-receive-clause-answer
returns-in_err-receive-clause-answer g c =
    let s = view g.C.House.balances c.args.self.now in
    told _ _ c.from_residual-in_err-receive.ensures.1 (second_refuses (recovery s c.args.case.now.number c.args.amount) (checks (g.C.House.ready c.args.self.now.house) s.balances 1 0 c.args.amount) _ _ _ _ c.in_ok-next.ensures c.in_err-receive.ensures.answer)

pub returns-clause-history : goal.returns-clause-history
returns-clause-history g c = accepted_goes_on _ Amount (search rules) refl (search rules) (search rules)
