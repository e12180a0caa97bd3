use Rattle.std.proofs.Common.{◌≡◌, map, take, vec_items, vec_len, vec_capacity}
use Rattle.houses.proofs.keeping.filled.Given as goal

abbrev pub invariant-loop-opening : goal.invariant-loop-opening
invariant-loop-opening g l =
    record { items : vec_items l.kept ≡ map g.T.Keeps.kept_of (take l.opening-index l.openings); len : vec_len l.kept ≡ l.opening-index; capacity : vec_capacity l.kept ≡ vec_capacity l.initial.kept }
