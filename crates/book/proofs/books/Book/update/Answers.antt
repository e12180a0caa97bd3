use Rattle.std.proofs.Common.{arith}
use Rattle.book.proofs.States.{alike}
use Rattle.std.proofs.Common.{◌≡◌, false, not, Ok, refl, ap, ◌∙◌, rules}
use Rattle.contribution.specs.Checks.{within}
use Rattle.book.specs.Rows.{row_of, found, required_as}
use Rattle.book.specs.States.{updated_to}
use Rattle.book.specs.Calls.{Amount}
use Rattle.book.specs.Books.{view}
use Rattle.book.proofs.Histories.{stops_with, told, stops, accepted_goes_on}
use Rattle.book.proofs.Places.{lent, replaced}
use Rattle.book.proofs.Updates.{by_contribution, by_standing, accepted, required_is}
use Rattle.book.proofs.books.Book.update.Given as given
use Rattle.book.proofs.books.Book.update.Goals as goal
use Rattle.book.proofs.books.Book.update.Goals.{After-contribution}

ok : (g : given.Over) (c : After-contribution g) → not (within 10 9999 c.args.code) ≡ false
ok g c = grind (arith, c.in_ok-check_code.ensures)

last : (g : given.Over) (c : After-contribution g) → c.map_or-last.result ≡ (row_of (view g.C.House.balances c.args.self.now).rows c.args.code).required
last g c = grind (arith, c.find.ensures, c.map_or-last.ensures)

pub returns-in_err-check_code-clause-history : goal.returns-in_err-check_code-clause-history
returns-in_err-check_code-clause-history g c = stops _ _ _ c.from_residual.ensures.1 _ (search rules) (search rules) (search rules)

pub returns-in_err-required : goal.returns-in_err-required
returns-in_err-required g c =
    let back = c.from_residual-in_err-required.ensures.1 in
    let answer = by_contribution (view g.C.House.balances c.args.self.now) c.args.code c.args.securities.now c.args.trades.now c.map_or-last.result (updated_to (view g.C.House.balances c.args.self.now) c.args.code c.args.securities.now c.args.trades.now) (ok g (goal.at.returns-in_err-required g c).After-contribution) _ c.in_err-required.ensures.verdict in
    record { answer = told _ _ back answer; state = search rules; ready = search rules; history = stops_with _ _ _ back _ _ answer refl refl }

pub returns-in_err-i : goal.returns-in_err-i
returns-in_err-i g c =
    let s = view g.C.House.balances c.args.self.now in
    let back = c.from_residual-in_err-i.ensures.1 in
    let answer = by_standing s c.args.code c.args.securities.now c.args.trades.now c.map_or-last.result (updated_to (view g.C.House.balances c.args.self.now) c.args.code c.args.securities.now c.args.trades.now) (ok g (goal.at.returns-in_err-i g c).After-contribution) _ c.in_ok-required.ensures.verdict (found s.rows c.args.code) _ c.in_err-i.ensures.answer in
    record { answer = told _ _ back answer; state = search rules; ready = search rules; history = stops_with _ _ _ back _ _ answer refl refl }

pub returns : goal.returns
returns g c =
    let s = view g.C.House.balances c.args.self.now in
    let a = (goal.at.returns g c).After-contribution in
    let ss = c.args.securities.now in
    let ts = c.args.trades.now in
    let v = updated_to s c.args.code ss ts in
    let n = required_is s c.args.code ss ts c.map_or-last.result c.in_ok-required.field-0 (last g a) c.in_ok-required.ensures.verdict in
    let row = c.index_mut.result.now in
    let answer = ap Ok n ∙ accepted s c.args.code ss ts c.map_or-last.result v (ok g a) c.in_ok-required.field-0 c.in_ok-required.ensures.verdict (found s.rows c.args.code) _ c.in_ok-i.ensures.answer in
    let written = ap (λ m. required_as m row) n ∙ ap (required_as v) (lent s.rows c.args.code c.in_ok-i.i row c.in_ok-i.ensures.stands c.index_mut.ensures.value) in
    let state = alike (replaced (required_as v) c.args.code s.rows c.in_ok-i.i _ c.in_ok-i.ensures.stands written) refl refl in
    record { answer = answer; state = state; ready = refl; history = accepted_goes_on _ Amount answer refl state (λ _. refl) }
