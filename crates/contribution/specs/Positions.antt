-- What the trades of a member come to in one security, each sum apart.
use Rattle.std.specs.Prelude.{◌≡◌, ℕ, ◌+◌, ◌*◌, ◌^◌, ◌<◌, ◌≤◌, false, List, [], ◌∷◌, length, get_or, sum_by}
use Rattle.std.specs.Str.{bytes_eq}
use Rattle.contribution.specs.declared.terms.Security.{Security}
use Rattle.contribution.specs.declared.terms.Trade.{Trade}
use Rattle.contribution.specs.declared.positions.Position.{Position}
use Rattle.contribution.specs.Steps.{bought, sold, paid, received, by_side, distance}

abbrev pub flat : Position
flat = record { bought = 0; sold = 0; paid = 0; received = 0 }

abbrev pub position : Security → List Trade → Position
position s ts = record { bought = sum_by (bought s) ts; sold = sum_by (sold s) ts; paid = sum_by (paid s) ts; received = sum_by (received s) ts }

-- one trade more in the same security
abbrev pub added : Position → Trade → Position
added p t =
    record {
      bought = p.bought + by_side t.side t.quantity 0;
      sold = p.sold + by_side t.side 0 t.quantity;
      paid = p.paid + by_side t.side (t.quantity * t.price) 0;
      received = p.received + by_side t.side 0 (t.quantity * t.price);
    }

-- V × R × E
abbrev pub at_risk : Security → Position → ℕ
at_risk s p = distance p.bought p.sold * s.price * s.risk * s.rate

-- money, and a quantity at the settlement price, by the rate
abbrev pub settled : Security → ℕ → ℕ → ℕ
settled s money quantity = (money + quantity * s.price) * s.rate

-- G × E is what counts up less what counts down
abbrev pub up : Security → Position → ℕ
up s p = settled s p.paid p.sold

abbrev pub down : Security → Position → ℕ
down s p = settled s p.received p.bought

-- the sum over securities with their positions
abbrev pub sum_pairs : (Security → Position → ℕ) → List Security → List Position → ℕ
sum_pairs f [] ps = 0
sum_pairs f (s ∷ ss) [] = 0
sum_pairs f (s ∷ ss) (p ∷ ps) = f s p + sum_pairs f ss ps

-- no more than n trades within their ranges come to
pub record Few (n : ℕ) (p : Position) : Type 0 where
  pub bought : p.bought ≤ n * 1000000
  pub sold : p.sold ≤ n * 1000000
  pub paid : p.paid ≤ n * 10 ^ 14
  pub received : p.received ≤ n * 10 ^ 14

-- no two securities have the same ISIN
abbrev pub Distinct : List Security → Type 0
Distinct ss = (j k : ℕ) (d : Security) → j < k → k < length ss → bytes_eq (get_or ss j d).isin.bytes (get_or ss k d).isin.bytes ≡ false
