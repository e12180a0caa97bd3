-- The checks of securities and trades, in their order.
use Rattle.std.specs.Prelude.{ℕ, ◌*◌, Bool, not, ◌&&◌, ◌||◌, List, [], ◌∷◌, map, take, is_some, Some, None, Option, nat_le, nat_lt, slice_index}
use Rattle.division.specs.Refusals.{Check, each}
use Rattle.contribution.specs.declared.terms.Security.{Security}
use Rattle.contribution.specs.declared.terms.Trade.{Trade}
use Rattle.contribution.specs.Refusals.{by_contribution}
use Rattle.contribution.specs.Isins.{well_formed, place}

abbrev pub within : ℕ → ℕ → ℕ → Bool
within low high n = nat_le low n && nat_le n high

-- price, risk and rate in their ranges
abbrev pub priced : Security → Bool
priced s = within 1 100000000 s.price && (within 0 10000 s.risk && within 1 100000 s.rate)

-- quantity and price in their ranges
abbrev pub dealt : Trade → Bool
dealt t = within 1 1000000 t.quantity && within 1 100000000 t.price

-- the settlement price of the security at a place, 0 where there is none
abbrev pub price_at : List Security → Option ℕ → ℕ
price_at ss None = 0
price_at ss (Some k) = slice_index (map (λ s. s.price) ss) k

-- of the security s at i, with those before it
abbrev pub security_checks : List Security → ℕ → Security → List Check
security_checks before i s =
    (not (well_formed s.isin.bytes), by_contribution 13 i)
    ∷ (not (priced s), by_contribution 14 i)
    ∷ (is_some (place before s.isin.bytes), by_contribution 15 i) ∷ []

abbrev pub securities_checks : List Security → List Check
securities_checks ss = each (λ i s. security_checks (take i ss) i s) ss

-- of the trade t at i, in the listed securities ss
abbrev pub trade_checks : List Security → ℕ → Trade → List Check
trade_checks ss i t =
    (not (well_formed t.isin.bytes), by_contribution 13 i)
    ∷ (not (dealt t), by_contribution 16 i)
    ∷ (not (is_some (place ss t.isin.bytes)), by_contribution 17 i)
    ∷ (nat_lt 100000000 (t.quantity * t.price) || nat_lt 100000000 (t.quantity * price_at ss (place ss t.isin.bytes)), by_contribution 18 i) ∷ []

abbrev pub trades_checks : List Security → List Trade → List Check
trades_checks ss ts = each (trade_checks ss) ts
