use Rattle.std.proofs.Common.{vec_items}
use Rattle.std.proofs.lemmas.Bool.Decides.{nat_tests}
use Rattle.std.proofs.Common.{ℕ, refl, arith, rules}
use Rattle.division.proofs.Checks.{first_refuses}
use Rattle.houses.specs.Balances.{checks}
use Rattle.book.specs.States.{usage, group_sums}
use Rattle.book.specs.Calls.{Groups}
use Rattle.book.specs.Books.{view}
use Rattle.book.proofs.Histories.{stops_with, told, stops, accepted_goes_on}
use Rattle.book.proofs.Levies.{use_sums}
use Rattle.book.proofs.books.Book.use_fund.Goals as goal

pub returns-in_err-next : goal.returns-in_err-next
returns-in_err-next g c =
    let s = view g.C.House.balances c.args.self.now in
    let back = c.from_residual.ensures.1 in
    let answer = first_refuses (usage s c.args.case.now.number c.args.amount) (checks (g.C.House.ready c.args.self.now.house) s.balances 0 1 c.args.amount) _ (group_sums s c.args.amount) _ c.in_err-next.ensures in
    record { answer = told _ _ back answer; state = search rules; ready = search rules; history = stops_with _ _ _ back _ _ answer refl refl }

pub returns-in_err-transfer-clause-history : goal.returns-in_err-transfer-clause-history
returns-in_err-transfer-clause-history g c = stops _ _ _ c.from_residual-in_err-transfer.ensures.1 _ (search rules) (search rules) (search rules)

pub returns-clause-history : goal.returns-clause-history
returns-clause-history g c = accepted_goes_on _ (λ (x : ℕ × ℕ × ℕ × ℕ). Groups x.0 x.1 x.2 x.3) (search rules) refl (search rules) (search rules)

pub invariant_of-self-2 : goal.invariant_of-self-2
invariant_of-self-2 g c = record { tally = grind (arith, nat_tests, use_sums (vec_items c.args.self.now.table.rows) c.args.amount) }
