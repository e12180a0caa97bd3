-- The letters of the sides of a trade.
use Rattle.std.specs.Prelude.{ℕ, cond, Ok, Err, Result, ◌==◌}
use Rattle.contribution.specs.declared.terms.Side.{Side}
use Rattle.contribution.specs.declared.terms.Side.TheVariants.{Bought, Sold}
use Rattle.contribution.specs.declared.terms.UnknownSide.{UnknownSide}

-- K is bought, S is sold, and no other byte is a side
abbrev pub side_of : ℕ → Result Side UnknownSide
side_of b = cond (b == 75) (Ok Bought) (cond (b == 83) (Ok Sold) (Err (record { 0 = b })))
