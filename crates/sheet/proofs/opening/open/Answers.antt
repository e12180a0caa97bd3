use Rattle.std.proofs.Common.{sym, ap, ◌∙◌, subst}
use Rattle.std.proofs.lemmas.Result.{err_from_is_err_and}
use Rattle.division.specs.Refusals.{clear}
use Rattle.houses.specs.Openings.{opened}
use Rattle.book.specs.States.{opening_checks, opened_over}
use Rattle.sheet.specs.Days.{afterwards, opens}
use Rattle.sheet.specs.Desks.{Opened}
use Rattle.sheet.proofs.Asked.{alike}
use Rattle.sheet.proofs.opening.open.Goals as goal

pub returns-in_err-check-2 : goal.returns-in_err-check-2
returns-in_err-check-2 c =
    let told = err_from_is_err_and c.from_residual-in_err-check-2.result c.from_residual-in_err-check-2.ensures.1 in
    let os = c.as_slice-accounts.result.now in
    let made = ap (λ b. clear (opening_checks b)) (sym c.make-house.ensures) in
    subst (λ l. Opened l c.from_residual-in_err-check-2.result) c.as_slice-accounts.ensures.value
    (rw (told.1, told.2) (ap (λ r. afterwards r (clear (opening_checks (opened os)))) (sym c.in_ok-check.ensures) ∙ made ∙ sym c.in_err-check-2.ensures.answer))

pub open-requires-clause-checked : goal.open-requires-clause-checked
open-requires-clause-checked c = ap (λ b. clear (opening_checks b)) c.in_ok-check-2.ensures.balances ∙ sym c.in_ok-check-2.ensures.answer

pub returns : goal.returns
returns c =
    let os = c.as_slice-accounts.result.now in
    let same = c.as_slice-accounts.ensures.value in
    let made = c.make-house.ensures in (
      ap opens (sym same) ∙ ap (λ r. afterwards r (clear (opening_checks (opened os)))) (sym c.in_ok-check.ensures) ∙ ap (λ b. clear (opening_checks b)) (sym made) ∙ sym c.in_ok-check-2.ensures.answer,
      alike (c.open.ensures.state ∙ ap opened_over (c.in_ok-check-2.ensures.balances ∙ made ∙ ap opened same)) c.new.ensures c.new-2.ensures,
    )
