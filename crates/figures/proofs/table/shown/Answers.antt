use Rattle.std.proofs.Common.{true, ◌∷◌, refl}
use Rattle.book.specs.Calls.{Regulate}
use Rattle.book.specs.Histories.{turn}
use Rattle.book.proofs.Histories.{lawful}
use Rattle.figures.specs.Figures.{balances, after_recovery}
use Rattle.figures.proofs.table.shown.Goals as goal

pub returns : goal.returns
returns c =
    record {
      ten_over_three = refl;
      three_past_a_weight_of_0 = refl;
      rising_value = refl;
      rising_gain = refl;
      rising_provisional = refl;
      falling_gain = refl;
      falling_provisional = refl;
      idle_provisional = refl;
      idle_calculated = refl;
      rounded_up_to_1 = refl;
      a_tenth_keeps = refl;
      more_than_a_tenth_replaces = refl;
      income_shared = refl;
      used_in_groups = refl;
      charged = refl;
      recovered = refl;
      recovered_reserves = refl;
      regulated = refl;
      held_to_the_law = lawful balances (turn (Regulate 11) true ∷ after_recovery) refl;
    }
