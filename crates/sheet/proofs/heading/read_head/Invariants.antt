use Rattle.std.proofs.Common.{◌≡◌, [], length}
use Rattle.sheet.specs.Lines.{items}
use Rattle.sheet.specs.Days.{head}
use Rattle.sheet.proofs.heading.read_head.Given as goal

abbrev pub invariant-loop-n : goal.invariant-loop-n
invariant-loop-n l = record {
  same : l.behind ≡ l.lines;
  left : head (items l.behind.lines.rest.now) l.behind.number l.accounts.list.items ≡ head (items l.fn.lines.lines.rest.now) l.fn.lines.number [];
}

abbrev pub decreases-loop-n : goal.decreases-loop-n
decreases-loop-n l = length l.behind.lines.rest.now
