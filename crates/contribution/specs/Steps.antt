-- From securities and trades to the contribution, step by step, in signed numbers where one is taken from another.
use Rattle.std.specs.Prelude.{ℕ, ◌+◌, ◌-◌, ◌*◌, ◌/◌, max, Bool, cond, List, ℤ, pos, negsuc, ◌+ℤ◌, ◌-ℤ◌, ◌*ℤ◌, fold, sum_by, nat_le, unsigned_abs}
use Rattle.std.specs.Str.{bytes_eq}
use Rattle.contribution.specs.declared.terms.Security.{Security}
use Rattle.contribution.specs.declared.terms.Trade.{Trade}
use Rattle.contribution.specs.declared.terms.Side.{Side}
use Rattle.contribution.specs.declared.terms.Side.TheVariants.{Bought, Sold}

-- the least that a member contributes
abbrev pub minimum : ℕ
minimum = 2000000

abbrev pub in_security : Security → Trade → Bool
in_security s t = bytes_eq s.isin.bytes t.isin.bytes

abbrev pub by_side : Side → ℕ → ℕ → ℕ
by_side Bought b s = b
by_side Sold b s = s

-- what a trade adds to the quantity bought and sold in s, and to the money paid and received for it
abbrev pub bought : Security → Trade → ℕ
bought s t = cond (in_security s t) (by_side t.side t.quantity 0) 0

abbrev pub sold : Security → Trade → ℕ
sold s t = cond (in_security s t) (by_side t.side 0 t.quantity) 0

abbrev pub paid : Security → Trade → ℕ
paid s t = cond (in_security s t) (by_side t.side (t.quantity * t.price) 0) 0

abbrev pub received : Security → Trade → ℕ
received s t = cond (in_security s t) (by_side t.side 0 (t.quantity * t.price)) 0

-- n, the quantity bought less the quantity sold
abbrev pub net : Security → List Trade → ℤ
net s ts = pos (sum_by (bought s) ts) -ℤ pos (sum_by (sold s) ts)

-- V, the net quantity at the settlement price
abbrev pub value : Security → List Trade → ℕ
value s ts = unsigned_abs (net s ts) * s.price

-- G, what was paid less what was received, less the net quantity at the settlement price
abbrev pub gain : Security → List Trade → ℤ
gain s ts = (pos (sum_by (paid s) ts) -ℤ pos (sum_by (received s) ts)) -ℤ (net s ts *ℤ pos s.price)

abbrev pub sumℤ : {X : Type 0} → (X → ℤ) → List X → ℤ
sumℤ f xs = fold (λ a x. a +ℤ f x) (pos 0) xs

-- the larger of a number and 0
abbrev pub above_zero : ℤ → ℕ
above_zero (pos n) = n
above_zero (negsuc n) = 0

-- a hundred-millionth, rounded up
abbrev pub rounded_up : ℕ → ℕ
rounded_up n = (n + 99999999) / 100000000

-- WW: one maximum and one rounding, both over all securities
abbrev pub provisional : List Security → List Trade → ℕ
provisional ss ts =
    rounded_up (sum_by (λ s. value s ts * s.risk * s.rate) ss + 10000 * above_zero (sumℤ (λ s. gain s ts *ℤ pos s.rate) ss))

-- W
abbrev pub calculated : List Security → List Trade → ℕ
calculated ss ts = max (provisional ss ts) minimum

abbrev pub distance : ℕ → ℕ → ℕ
distance a b = (a - b) + (b - a)

-- the new contribution: m where w lies within a tenth of m from it, else w
abbrev pub renewed : ℕ → ℕ → ℕ
renewed w m = cond (nat_le (10 * distance w m) m) m w
