use Rattle.std.proofs.Common.{length, sym, ap, ◌∙◌, subst, arith}
use Rattle.std.proofs.lemmas.List.{length-map}
use Rattle.houses.specs.Balances.{Sound, Same}
use Rattle.houses.specs.Entries.{entry_of, booked, carried, Covered}
use Rattle.houses.proofs.Opened.{list_passed, sound_opened}
use Rattle.houses.proofs.Moved.{to_same}
use Rattle.houses.proofs.Booked.{booked_opened, covered_opened, in_order_opened}
use Rattle.houses.proofs.list_house.ListHouse.make.Goals as goal

pub invariant_of-result : goal.invariant_of-result
invariant_of-result c =
    let os = c.args.openings.now in
    let p = list_passed os c.args.room c.requires.checked in
    let made = c.filled-entries.ensures.items in
    record {
      few = p.0;
      within = omega (arith, p.1, c.filled-entries.result.ok.0, ap length made, length-map os entry_of);
      reserved = omega (arith, c.filled-entries.ensures.capacity, c.requires.room);
      covered = subst Covered (sym made) (covered_opened os);
      sound = subst (λ es. Sound (booked es)) (sym made) (subst Sound (sym (booked_opened os)) (sound_opened os p.2));
      ordered = subst (λ es. Same (booked es) (carried es)) (sym made) (to_same _ _ (in_order_opened os));
    }

pub returns-clause-balances : goal.returns-clause-balances
returns-clause-balances c = ap booked c.filled-entries.ensures.items ∙ booked_opened c.args.openings.now
