use Rattle.std.proofs.Common.{vec_items}
use Rattle.std.proofs.Common.{arith}
use Rattle.std.proofs.lemmas.Bool.Decides.{nat_tests}
use Rattle.book.proofs.States.{alike}
use Rattle.std.proofs.Common.{refl, ap, ◌∙◌, rules}
use Rattle.book.specs.declared.cases.Case.{Case}
use Rattle.book.specs.declared.standings.Event.TheVariants.{OpenCase}
use Rattle.book.specs.Rows.{standing_after}
use Rattle.book.specs.Calls.{Number}
use Rattle.book.specs.Books.{view}
use Rattle.book.proofs.Histories.{stops, accepted_goes_on}
use Rattle.book.proofs.Places.{lent, replaced}
use Rattle.book.proofs.books.Book.open_case.Goals as goal
use Rattle.book.proofs.books.Book.open_case.Goals.{After-index_mut}

pub returns-in_err-i-clause-history : goal.returns-in_err-i-clause-history
returns-in_err-i-clause-history g c = stops _ _ _ c.from_residual.ensures.1 _ (search rules) (search rules) (search rules)

pub unwrap-requires : goal.unwrap-requires
unwrap-requires g c = grind (arith, nat_tests, lent (vec_items c.args.self.now.table.rows) c.args.code c.in_ok-i.i c.index_mut.result.now c.in_ok-i.ensures.stands c.index_mut.ensures.value)

pub returns : goal.returns
returns g c =
    let s = view g.C.House.balances c.args.self.now in
    let row = c.index_mut.result.now in
    let written = ap (λ t. record { code = row.code; standing = t; base = row.base; reserve = row.reserve; required = row.required; charged = row.charged }) c.turn.ensures.left ∙ ap (standing_after OpenCase) (lent s.rows c.args.code c.in_ok-i.i c.index_mut.result.now c.in_ok-i.ensures.stands c.index_mut.ensures.value) in
    let state = alike (replaced (standing_after OpenCase) c.args.code s.rows c.in_ok-i.i _ c.in_ok-i.ensures.stands written) refl refl in
    record { answer = search rules; state = state; ready = refl; history = accepted_goes_on _ (λ (n : Case). Number n.number) (search rules) refl state (search rules) }
