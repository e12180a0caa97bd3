use Rattle.std.proofs.Common.{◌≡◌, ◌*◌, ◌^◌, ◌≤◌, take, sum_by}
use Rattle.houses.specs.Entries.{brings, takes}
use Rattle.houses.proofs.entries.balance_from.Given as goal

abbrev pub invariant-loop-entry : goal.invariant-loop-entry
invariant-loop-entry l =
    (l.paid_in ≡ sum_by (brings l.account) (take l.entry-index l.entries)) × (l.paid_out ≡ sum_by (takes l.account) (take l.entry-index l.entries))
    × (l.paid_in ≤ l.entry-index * 2 ^ 64) × (l.paid_out ≤ l.entry-index * 2 ^ 64)
