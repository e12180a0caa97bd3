-- What a member firm can rely on, whatever its securities and trades.
use Rattle.std.specs.Prelude.{◌≡◌, ℕ, ◌*◌, ◌<◌, ◌≤◌, List, ◌∷◌, Ok, ◌≢◌}
use Rattle.std.specs.List.Sorted.{IsPermutation}
use Rattle.contribution.specs.declared.terms.Security.{Security}
use Rattle.contribution.specs.declared.terms.Side.{Side}
use Rattle.contribution.specs.declared.terms.Side.TheVariants.{Bought, Sold}
use Rattle.contribution.specs.declared.terms.Trade.{Trade}
use Rattle.contribution.specs.declared.assessments.Assessment.{Assessment}
use Rattle.contribution.specs.Steps.{minimum, distance, provisional}
use Rattle.contribution.specs.Contribution.{verdict}

-- the trade t on the given side
abbrev pub on_side : Side → Trade → Trade
on_side side t = record { isin = t.isin; side = side; quantity = t.quantity; price = t.price }

-- an accepted assessment a of the securities ss and the trades ts, with m the last contribution
pub record Sound (ss : List Security) (ts : List Trade) (m : ℕ) (a : Assessment) : Type 0 where
  pub least : minimum ≤ a.calculated
  pub most : a.calculated ≤ 1000000000
  -- the last contribution is left only for W, and only where W lies more than a tenth of it away
  pub moved : (a.required ≢ m) → (a.required ≡ a.calculated) × (m < 10 * distance a.calculated m)
  -- in whichever order the trades are told, the answer is the same
  pub order : (us : List Trade) → IsPermutation ts us → verdict ss us m ≡ Ok a
  -- a purchase and a sale of as much at the same price weigh nothing
  pub offset : (t : Trade) → provisional ss (on_side Bought t ∷ on_side Sold t ∷ ts) ≡ a.provisional
