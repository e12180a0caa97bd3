use Rattle.std.proofs.Common.{◌+◌, Err, refl}
use Rattle.std.proofs.lemmas.Result.{err_from_is_err_and}
use Rattle.book.specs.declared.cases.Case.{Case}
use Rattle.book.specs.declared.answers.Answer.TheVariants.{Number}
use Rattle.book.specs.Refusals.{refusal}
use Rattle.book.specs.Calls as call
use Rattle.sheet.specs.declared.lines.Request.TheVariants.{OpenCase}
use Rattle.sheet.specs.Desks.{ledger, day_of}
use Rattle.sheet.proofs.Asked.{by_call}
use Rattle.sheet.proofs.desks.Desk.open.Goals as goal

pub returns-in_err-case : goal.returns-in_err-case
returns-in_err-case c =
    let told = err_from_is_err_and c.from_residual.result c.from_residual.ensures.1 in
    let d = day_of c.args.self.now in
    let v : Case = record { number = d.book.opened + 1 } in
    let went = by_call (OpenCase c.args.code) (call.OpenCase c.args.code) d (ledger c.open_case.new.self) refusal (λ n. Number n.number) v refl refl (Err c.in_err-case.field-0.0) c.in_err-case.ensures.answer c.in_err-case.ensures.state in
    rw (told.1, told.2) (record { answer = went.0; day = went.1 })
