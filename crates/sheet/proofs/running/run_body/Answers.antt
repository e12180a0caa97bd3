use Rattle.std.proofs.Common.{◌+◌, Ok, Err, ap, ◌∙◌, subst}
use Rattle.sheet.specs.Lines.{said, items}
use Rattle.sheet.specs.Days.{stopped, finish, taken, body}
use Rattle.sheet.specs.Desks.{day_of, Written, Took}
use Rattle.sheet.proofs.Printed.{written_both, lines_end, line_goes, line_stops}
use Rattle.sheet.proofs.running.run_body.Goals as goal

pub loop-line-preserved : goal.loop-line-preserved
loop-line-preserved c = λ p more.
    let line = c.in-Some.ensures in
    let l = c.loop-line in
    let d = day_of l.desk in
    let f = day_of c.take.new.self in
    let i = said c.in-Some.said in
    let s = l.lines.lines.rest.now in
    let t = c.next_line.new.self.lines.rest.now in
    let took = subst (λ m. Took (taken m d i) (Ok tt) d f l.out c.take.new.out) line.number c.in_default-take.ensures in
    let rest = subst (λ m. Written c.take.new.out (body (items t) m f) p) (line.next ∙ ap (λ m. m + 1) line.number) more in
    l.invariant p (line_goes l.lines.number d l.out p s t i line.line.0 line.line.1 line.line.2 f c.take.new.out took rest)

pub returns-in-Err : goal.returns-in-Err
returns-in-Err c =
    let line = c.in-Some.ensures in
    let l = c.loop-line in
    let d = day_of l.desk in
    let f = day_of c.take.new.self in
    let i = said c.in-Some.said in
    let n = l.lines.number in
    let p = c.take.new.out in
    let q = c.stop.new.self in
    let end = c.finish.new.out in
    let took = subst (λ m. Took (taken m d i) (Err c.in-Err.fault) d f l.out p) line.number c.in-Err.ensures in
    let stop = subst (λ m. Written p (stopped m c.in-Err.fault) q) line.number c.stop.ensures in
    let last = subst (λ m. Written q (finish m f) end) (line.next ∙ ap (λ m. m + 1) line.number) c.finish.ensures in
    l.invariant end (line_stops n d l.out end l.lines.lines.rest.now c.next_line.new.self.lines.rest.now i line.line.0 line.line.1 line.line.2 f p c.in-Err.fault took (written_both p q end (stopped n c.in-Err.fault) (finish (n + 1) f) stop last))

pub returns : goal.returns
returns c =
    let l = c.loop-line in
    let d = day_of l.desk in
    let end = c.finish-2.new.out in
    let last = subst (λ m. Written l.out (finish m d) end) c.in_default.ensures.next c.finish-2.ensures in
    l.invariant end (lines_end l.lines.number d l.out end l.lines.lines.rest.now c.in_default.ensures.line.0 last)
