use Rattle.std.proofs.Common.{Err, sym, ap, subst}
use Rattle.sheet.specs.Lines.{items}
use Rattle.sheet.specs.Days.{printed, no_book, unless_refused, new_day, body}
use Rattle.sheet.specs.Desks.{Written}
use Rattle.sheet.proofs.Printed.{written_both}
use Rattle.sheet.proofs.running.run_day.Goals as goal

pub returns : goal.returns
returns c =
    let n = c.args.head.lines.number in
    let day = body (items c.args.head.lines.lines.rest.now) n (new_day c.args.head.accounts.list.items) in
    subst (λ x. Written c.args.out.now x c.say-in-Err.new.self) (sym (ap (λ r. unless_refused r n day) c.in-Err.ensures))
    (written_both c.args.out.now c.say.new.self c.say-in-Err.new.self (printed n 79 (Err c.in-Err.refusal)) no_book c.say.ensures c.say-in-Err.ensures)
