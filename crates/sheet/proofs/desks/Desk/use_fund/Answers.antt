use Rattle.std.proofs.Common.{Err, refl, sym, ap, ◌∙◌}
use Rattle.std.specs.Option.{option_map, option_copied}
use Rattle.std.proofs.lemmas.Result.{err_from_is_err_and}
use Rattle.book.specs.declared.answers.Answer.TheVariants.{Groups}
use Rattle.book.specs.Refusals.{refusal}
use Rattle.book.specs.States.{group_sums}
use Rattle.book.specs.Calls as call
use Rattle.sheet.specs.declared.lines.Request.TheVariants.{Use}
use Rattle.sheet.specs.Desks.{ledger, day_of}
use Rattle.sheet.proofs.Asked.{of_case, by_call}
use Rattle.sheet.proofs.desks.Desk.use_fund.Goals as goal

pub returns-in_err-base : goal.returns-in_err-base
returns-in_err-base c =
    let told = err_from_is_err_and c.from_residual-in_err-base.result c.from_residual-in_err-base.ensures.1 in
    let d = day_of c.args.self.now in
    let n = c.in_ok-case.case.now.number in
    let held = ap (λ o. option_map (λ h. h.number) (option_copied o)) (sym c.in_ok-case.ensures.ok_part) ∙ ap (option_map (λ h. h.number)) c.as_ref.ensures.value in
    let is = of_case d.book.case n (λ m. call.Use m c.args.amount) (held ∙ c.args.self.now.holds) in
    let went = by_call (Use c.args.amount) (call.Use n c.args.amount) d (ledger c.use_fund.new.self) refusal (λ g. Groups g.0 g.1 g.2 g.3) (group_sums d.book c.args.amount) is refl (Err c.in_err-base.field-0.0) c.in_err-base.ensures.answer c.in_err-base.ensures.state in
    rw (told.1, told.2) (record { answer = went.0; day = went.1 })
