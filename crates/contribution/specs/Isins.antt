-- The form of an ISIN, and the security that an ISIN names.
use Rattle.std.specs.Prelude.{ℕ, ◌+◌, Bool, true, cond, ◌&&◌, ◌||◌, List, [], ◌∷◌, Option, nat_le, nat_lt}
use Rattle.std.specs.List.{position_from}
use Rattle.std.specs.Str.{bytes_eq}
use Rattle.contribution.specs.declared.terms.Security.{Security}

abbrev pub capital : ℕ → Bool
capital b = nat_le 65 b && nat_le b 90

abbrev pub digit : ℕ → Bool
digit b = nat_le 48 b && nat_le b 57

-- whether the byte b may stand at i: two capitals, nine capitals or digits, one digit
abbrev pub stands : ℕ → ℕ → Bool
stands i b = cond (nat_lt i 2) (capital b) (cond (nat_lt i 11) (capital b || digit b) (digit b))

abbrev pub stand_from : ℕ → List ℕ → Bool
stand_from i [] = true
stand_from i (b ∷ bs) = stands i b && stand_from (i + 1) bs

abbrev pub well_formed : List ℕ → Bool
well_formed bs = stand_from 0 bs

-- where the first security with the ISIN stands
abbrev pub place : List Security → List ℕ → Option ℕ
place ss isin = position_from (λ s. bytes_eq s.isin.bytes isin) 0 ss
