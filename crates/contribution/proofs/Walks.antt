-- Reading lists by place and by walking.
use Rattle.std.proofs.Common.{◌≡◌, ℕ, ◌+◌, ◌&&◌, List, [], ◌∷◌, refl, ap}
use Rattle.std.specs.List.{list_all, enumerate_from}
use Rattle.contribution.specs.declared.terms.Security.{Security}
use Rattle.contribution.specs.declared.terms.Trade.{Trade}
use Rattle.contribution.specs.declared.terms.Side.TheVariants.{Bought}
use Rattle.contribution.specs.Isins.{stands, stand_from}

-- what a list is read as past its end
abbrev pub no_security : Security
no_security = record { isin = record { bytes = [] }; price = 0; risk = 0; rate = 0 }

abbrev pub no_trade : Trade
no_trade = record { isin = record { bytes = [] }; side = Bought; quantity = 0; price = 0 }

pub each_stands : (i : ℕ) (bs : List ℕ) → list_all (λ p. stands p.0 p.1) (enumerate_from i bs) ≡ stand_from i bs
each_stands i [] = refl
each_stands i (b ∷ bs) = ap (λ t. stands i b && t) (each_stands (i + 1) bs)
