-- What the faults of a contribution tell.
use Rattle.std.specs.Prelude.{ℕ, List, codes}
use Rattle.division.specs.declared.refusals.Refusal.{Refusal}
use Rattle.division.specs.declared.refusals.Layer.TheVariants.{Contribution}
use Rattle.contribution.specs.declared.faults.Fault.{Fault}
use Rattle.contribution.specs.declared.faults.Fault.TheVariants.{TooMany, Isin, Terms, ListedBefore, Deal, NotListed, TooLarge, TooHigh}

-- a refusal of the contribution, for what stands at a position
abbrev pub by_contribution : ℕ → ℕ → Refusal
by_contribution n i = record { number = n; layer = Contribution; place = i }

abbrev pub refusal : Fault → Refusal
refusal TooMany = by_contribution 19 0
refusal (Isin i) = by_contribution 13 i
refusal (Terms i) = by_contribution 14 i
refusal (ListedBefore i) = by_contribution 15 i
refusal (Deal i) = by_contribution 16 i
refusal (NotListed i) = by_contribution 17 i
refusal (TooLarge i) = by_contribution 18 i
refusal TooHigh = by_contribution 20 0

-- a fault in words
abbrev pub reason : Fault → List ℕ
reason TooMany = codes "more than 64 securities or more than 128 trades"
reason (Isin i) = codes "the ISIN of this security or trade is malformed"
reason (Terms i) = codes "the price, risk or rate of this security is out of its range"
reason (ListedBefore i) = codes "the ISIN of this security was listed before"
reason (Deal i) = codes "the quantity or price of this trade is out of its range"
reason (NotListed i) = codes "the ISIN of this trade is not listed"
reason (TooLarge i) = codes "this trade comes to more than 100,000,000"
reason TooHigh = codes "the contribution comes to more than 1,000,000,000"
