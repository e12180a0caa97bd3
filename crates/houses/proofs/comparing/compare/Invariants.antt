use Rattle.std.proofs.Common.{take}
use Rattle.houses.specs.Comparing.{seen, Alike}
use Rattle.houses.proofs.comparing.compare.Given as goal

abbrev pub invariant-loop-i : goal.invariant-loop-i
invariant-loop-i g l =
    Alike (seen g.C.House.balances g.C.House.ready l.initial.one) (seen g.D.House.balances g.D.House.ready l.initial.other) (take l.i l.transfers)
    (seen g.C.House.balances g.C.House.ready l.one) (seen g.D.House.balances g.D.House.ready l.other)
