use Rattle.std.proofs.Common.{sym, subst}
use Rattle.houses.specs.Balances.{Sound}
use Rattle.houses.proofs.Opened.{table_passed, sound_opened}
use Rattle.houses.proofs.table_house.TableHouse.make.Goals as goal

pub invariant_of-result : goal.invariant_of-result
invariant_of-result c = record { sound = subst Sound (sym c.filled.ensures.balances) (sound_opened c.args.openings.now (table_passed c.args.openings.now c.requires.checked)) }
