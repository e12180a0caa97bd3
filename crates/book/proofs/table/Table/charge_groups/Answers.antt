use Rattle.std.proofs.Common.{arith}
use Rattle.book.proofs.Levies.{room_after, in_turn, used_in_turn}
use Rattle.book.proofs.table.Table.charge_groups.Goals as goal

pub levy-own_reserve-requires : goal.levy-own_reserve-requires
levy-own_reserve-requires c = room_after c.levy-own_base.ensures c.requires

pub levy-bases-requires : goal.levy-bases-requires
levy-bases-requires c = room_after c.levy-own_reserve.ensures (room_after c.levy-own_base.ensures c.requires)

pub levy-reserves-requires : goal.levy-reserves-requires
levy-reserves-requires c = room_after c.levy-bases.ensures (room_after c.levy-own_reserve.ensures (room_after c.levy-own_base.ensures c.requires))

pub returns : goal.returns
returns c = record { paid = grind (arith, in_turn c.levy-own_base.ensures c.levy-own_reserve.ensures c.levy-bases.ensures c.levy-reserves.ensures); rows = used_in_turn c.levy-own_base.ensures c.levy-own_reserve.ensures c.levy-bases.ensures c.levy-reserves.ensures }
