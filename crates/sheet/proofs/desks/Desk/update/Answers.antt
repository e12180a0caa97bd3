use Rattle.std.proofs.Common.{◌≡◌, ℕ, List, Some, Ok, Err, refl, sym, ap, ◌∙◌}
use Rattle.std.proofs.lemmas.Result.{err_from_is_err_and}
use Rattle.book.specs.declared.answers.Answer.TheVariants.{Amount}
use Rattle.contribution.specs.declared.terms.Security.{Security}
use Rattle.contribution.specs.declared.terms.Trade.{Trade}
use Rattle.book.specs.States.{updated_to}
use Rattle.book.specs.Refusals.{refusal}
use Rattle.book.specs.Calls as call
use Rattle.sheet.specs.declared.lines.Request.TheVariants.{Update}
use Rattle.sheet.specs.Days.{Day, trades_of, call_of}
use Rattle.sheet.specs.Desks.{ledger, day_of}
use Rattle.sheet.proofs.Asked.{by_call}
use Rattle.sheet.proofs.desks.Desk.update.Goals as goal

-- all securities so far and the member's own trades
given : (d : Day) (code : ℕ) (ss : List Security) (ts : List Trade) → ss ≡ d.securities → ts ≡ trades_of d.trades code → call_of (Update code) d ≡ Some (call.Update code ss ts)
given d code ss ts all own = ap (λ l. Some (call.Update code l (trades_of d.trades code))) (sym all) ∙ ap (λ l. Some (call.Update code ss l)) (sym own)

pub returns-in_err-update : goal.returns-in_err-update
returns-in_err-update c =
    let told = err_from_is_err_and c.from_residual.result c.from_residual.ensures.1 in
    let d = day_of c.args.self.now in
    let code = c.args.code in
    let ss = c.as_slice.result.now in
    let ts = c.as_slice-2.result.now in
    let is = given d code ss ts c.as_slice.ensures.value (c.as_slice-2.ensures.value ∙ c.collect.ensures) in
    let went = by_call (Update code) (call.Update code ss ts) d (ledger c.update.new.self) refusal Amount (updated_to d.book code ss ts) is refl (Err c.in_err-update.field-0.0) c.in_err-update.ensures.answer c.in_err-update.ensures.state in
    rw (told.1, told.2) (record { answer = went.0; day = went.1 })

pub returns : goal.returns
returns c =
    let d = day_of c.args.self.now in
    let code = c.args.code in
    let ss = c.as_slice.result.now in
    let ts = c.as_slice-2.result.now in
    let is = given d code ss ts c.as_slice.ensures.value (c.as_slice-2.ensures.value ∙ c.collect.ensures) in
    let went = by_call (Update code) (call.Update code ss ts) d (ledger c.update.new.self) refusal Amount (updated_to d.book code ss ts) is refl (Ok c.in_ok-update.field-0) c.in_ok-update.ensures.answer c.in_ok-update.ensures.state in
    record { answer = went.0; day = went.1 }
