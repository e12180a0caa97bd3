use Rattle.std.proofs.Common.{Ok, Err, refl}
use Rattle.std.proofs.lemmas.Result.{err_from_is_err_and}
use Rattle.book.specs.declared.answers.Answer.TheVariants.{Amount, Paid}
use Rattle.book.specs.Rows.{share, row_of}
use Rattle.book.specs.States.{missing, excess}
use Rattle.contribution.specs.Steps.{minimum}
use Rattle.book.specs.Refusals.{refusal}
use Rattle.book.specs.Calls as call
use Rattle.sheet.specs.declared.lines.Request.TheVariants.{Join, Regulate, Leave, Income, Transfer}
use Rattle.sheet.specs.Desks.{ledger, day_of}
use Rattle.sheet.proofs.Asked.{by_call}
use Rattle.sheet.proofs.desks.Desk.ask.Goals as goal

pub returns-in_err-join-in-Join : goal.returns-in_err-join-in-Join
returns-in_err-join-in-Join c =
    let told = err_from_is_err_and c.from_residual.result c.from_residual.ensures.1 in
    let d = day_of c.args.self.now in
    let a = c.in-Join.code in
    let by = c.in_err-join-in-Join.ensures in
    let went = by_call (Join a) (call.Join a) d (ledger c.join.new.self) refusal Amount minimum refl refl (Err c.in_err-join-in-Join.field-0.0) by.answer by.state in
    rw (c.in-Join.is, told.1, told.2) (record { answer = went.0; day = went.1 })

pub returns-in_err-paid_in-in-Regulate : goal.returns-in_err-paid_in-in-Regulate
returns-in_err-paid_in-in-Regulate c =
    let told = err_from_is_err_and c.from_residual-in_err-paid_in-in-Regulate.result c.from_residual-in_err-paid_in-in-Regulate.ensures.1 in
    let d = day_of c.args.self.now in
    let a = c.in-Regulate.code in
    let by = c.in_err-paid_in-in-Regulate.ensures in
    let went = by_call (Regulate a) (call.Regulate a) d (ledger c.regulate.new.self) refusal (λ p. Paid p.0 p.1) (missing d.book a, excess d.book a) refl refl (Err c.in_err-paid_in-in-Regulate.field-0.0) by.answer by.state in
    rw (c.in-Regulate.is, told.1, told.2) (record { answer = went.0; day = went.1 })

pub returns-in_err-leave-in-Leave : goal.returns-in_err-leave-in-Leave
returns-in_err-leave-in-Leave c =
    let told = err_from_is_err_and c.from_residual-in_err-leave-in-Leave.result c.from_residual-in_err-leave-in-Leave.ensures.1 in
    let d = day_of c.args.self.now in
    let a = c.in-Leave.code in
    let by = c.in_err-leave-in-Leave.ensures in
    let went = by_call (Leave a) (call.Leave a) d (ledger c.leave.new.self) refusal Amount (share (row_of d.book.rows a)) refl refl (Err c.in_err-leave-in-Leave.field-0.0) by.answer by.state in
    rw (c.in-Leave.is, told.1, told.2) (record { answer = went.0; day = went.1 })

pub returns-in_err-income-in-Income : goal.returns-in_err-income-in-Income
returns-in_err-income-in-Income c =
    let told = err_from_is_err_and c.from_residual-in_err-income-in-Income.result c.from_residual-in_err-income-in-Income.ensures.1 in
    let d = day_of c.args.self.now in
    let a = c.in-Income.amount in
    let by = c.in_err-income-in-Income.ensures in
    let went = by_call (Income a) (call.Income a) d (ledger c.income.new.self) refusal Amount a refl refl (Err c.in_err-income-in-Income.field-0.0) by.answer by.state in
    rw (c.in-Income.is, told.1, told.2) (record { answer = went.0; day = went.1 })

pub returns-in_err-other_transfer-in-Transfer : goal.returns-in_err-other_transfer-in-Transfer
returns-in_err-other_transfer-in-Transfer c =
    let told = err_from_is_err_and c.from_residual-in_err-other_transfer-in-Transfer.result c.from_residual-in_err-other_transfer-in-Transfer.ensures.1 in
    let d = day_of c.args.self.now in
    let a = c.in-Transfer in
    let by = c.in_err-other_transfer-in-Transfer.ensures in
    let went = by_call (Transfer a.from a.to a.amount) (call.OtherTransfer a.from a.to a.amount) d (ledger c.other_transfer.new.self) refusal Amount a.amount refl refl (Err c.in_err-other_transfer-in-Transfer.field-0.0) by.answer by.state in
    rw (a.is, told.1, told.2) (record { answer = went.0; day = went.1 })

pub returns-in_ok-paid_in-in-Regulate : goal.returns-in_ok-paid_in-in-Regulate
returns-in_ok-paid_in-in-Regulate c =
    let d = day_of c.args.self.now in
    let a = c.in-Regulate.code in
    let r = c.in_ok-paid_in-in-Regulate in
    let went = by_call (Regulate a) (call.Regulate a) d (ledger c.regulate.new.self) refusal (λ p. Paid p.0 p.1) (missing d.book a, excess d.book a) refl refl (Ok (r.paid_in, r.paid_out)) r.ensures.answer r.ensures.state in
    rw c.in-Regulate.is (record { answer = went.0; day = went.1 })
