use Rattle.book.proofs.States.{alike}
use Rattle.std.proofs.Common.{◌≡◌, ◌+◌, Ok, refl, ap, ◌∙◌, arith, rules}
use Rattle.std.proofs.lemmas.Bool.Decides.{nat_tests}
use Rattle.division.specs.Refusals.{clear}
use Rattle.division.proofs.Checks.{both_pass}
use Rattle.book.specs.Rows.{share, row_of, found}
use Rattle.book.specs.States.{departure, settle_checks, settled}
use Rattle.book.specs.Calls.{Amount}
use Rattle.book.specs.Books.{view}
use Rattle.book.proofs.Histories.{told, stops, accepted_goes_on}
use Rattle.book.proofs.Places.{row_is, taken_out}
use Rattle.book.proofs.books.Book.leave.Goals as goal
use Rattle.book.proofs.books.Book.leave.Goals.{After-settle}

pub returns-in_err-i-clause-history : goal.returns-in_err-i-clause-history
returns-in_err-i-clause-history g c = stops _ _ _ c.from_residual.ensures.1 _ (grind arith) refl refl

pub returns-in_err-i-clause-answer : goal.returns-in_err-i-clause-answer
returns-in_err-i-clause-answer g c = told _ _ c.from_residual.ensures.1 (grind arith)

pub returns-in_err-settle-clause-history : goal.returns-in_err-settle-clause-history
returns-in_err-settle-clause-history g c = stops _ _ _ c.from_residual-in_err-settle.ensures.1 _ (search rules) (search rules) (search rules)

pub returns : goal.returns
returns g c =
    let s = view g.C.House.balances c.args.self.now in
    let all = share (row_of s.rows c.args.code) in
    let mine : c.in_ok-i.row.base + c.in_ok-i.row.reserve ≡ all = ap share (row_is (departure s c.args.code) s.rows c.args.code c.in_ok-i.i c.in_ok-i.row c.in_ok-i.ensures.answer) in
    let checks = settle_checks (g.C.House.ready c.args.self.now.house) s.balances c.args.code 0 in
    let answer = ap Ok mine ∙ both_pass (departure s c.args.code) (checks all) (found s.rows c.args.code) all _ _ c.in_ok-i.ensures.answer (c.in_ok-settle.ensures.answer ∙ ap (λ n. clear (checks n)) mine) in
    let state = alike (c.remove.ensures ∙ taken_out c.args.code s.rows c.in_ok-i.i c.in_ok-i.ensures.stands.here) refl (c.in_ok-settle.ensures.balances ∙ ap (settled s.balances c.args.code 0) mine) in
    let unpaid = λ (z : all ≡ 0). c.in_ok-settle.ensures.unpaid (omega (arith, mine, z)) in
    record { answer = answer; state = state; ready = tt; unpaid = unpaid; history = accepted_goes_on _ Amount answer refl state (λ still. unpaid (grind (arith, nat_tests))) }
