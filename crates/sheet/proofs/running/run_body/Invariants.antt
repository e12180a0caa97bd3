use Rattle.std.proofs.Common.{length}
use Rattle.sheet.specs.declared.entries.Output.{Output}
use Rattle.sheet.specs.Lines.{items}
use Rattle.sheet.specs.Days.{body}
use Rattle.sheet.specs.Desks.{day_of, Written}
use Rattle.sheet.proofs.running.run_body.Given as goal

-- whatever behind the lines that are left is written, is written behind all of them
abbrev pub invariant-loop-line : goal.invariant-loop-line
invariant-loop-line l =
    (p : Output) → Written l.out (body (items l.lines.lines.rest.now) l.lines.number (day_of l.desk)) p → Written l.initial.out (body (items l.fn.lines.lines.rest.now) l.fn.lines.number (day_of l.fn.desk)) p

abbrev pub decreases-loop-line : goal.decreases-loop-line
decreases-loop-line l = length l.lines.lines.rest.now
