use Rattle.std.proofs.Common.{Ok, sym, ap, ◌∙◌, subst}
use Rattle.std.specs.Option.{option_map}
use Rattle.sheet.specs.Days.{printed, ended}
use Rattle.sheet.specs.Desks.{ledger, day_of, Written}
use Rattle.sheet.proofs.Asked.{finish_none, finish_some}
use Rattle.sheet.proofs.Printed.{written_both}
use Rattle.sheet.proofs.desks.Desk.finish.Goals as goal
use Rattle.sheet.proofs.desks.Desk.finish.Goals.{in-Some, in_default}

pub returns : goal.returns
returns c =
    let d = day_of c.args.self in
    let n = c.args.n in
    let end = c.say_end.new.out in
    elim c.match-held.branch [
      | in-Some w ↦
          (let t = ledger w.end.new.book in
          let is = ap (option_map (λ h. h.number)) (sym w.in-Some.is) ∙ c.args.self.holds in
          let last = subst (λ b. Written w.say.new.self (ended (ledger b)) end) w.book-is (subst (λ o. Written o (ended (ledger c.match-held.book)) end) w.out-is c.say_end.ensures) in
          subst (λ x. Written c.args.out.now x end) (finish_some n d w.in-Some.case.number w.end.result t is w.end.ensures.answer w.end.ensures.book)
          (written_both c.args.out.now w.say.new.self end (printed n 67 (Ok w.end.result)) (ended t) w.say.ensures last))
      | in_default w ↦
          (let is = ap (option_map (λ h. h.number)) (sym w.in_default.is) ∙ c.args.self.holds in
          let last = subst (λ b. Written c.args.out.now (ended (ledger b)) end) w.book-is (subst (λ o. Written o (ended (ledger c.match-held.book)) end) w.out-is c.say_end.ensures) in
          subst (λ x. Written c.args.out.now x end) (finish_none n d d.book.case is) last)
    ]
