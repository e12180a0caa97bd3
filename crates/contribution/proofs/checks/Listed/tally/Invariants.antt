use Rattle.std.proofs.Common.{◌≡◌, ℕ, ◌<◌, length, get_or, take, drop}
use Rattle.division.specs.Refusals.{clear, each_from}
use Rattle.contribution.specs.Checks.{trade_checks, trades_checks}
use Rattle.contribution.specs.Positions.{flat, Few}
use Rattle.contribution.proofs.Tallies.{Held}
use Rattle.contribution.proofs.checks.Listed.tally.Given as goal

abbrev pub invariant-loop-i : goal.invariant-loop-i
invariant-loop-i l =
    (clear (each_from (trade_checks l.self.securities.now) l.i (drop l.i l.trades)) ≡ clear (trades_checks l.self.securities.now l.trades)) ×
    Held l.self.securities.now (take l.i l.trades) l.positions ×
    ((k : ℕ) → k < length l.self.securities.now → Few l.i (get_or l.positions k flat))
