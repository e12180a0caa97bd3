-- What the refusals of a house tell.
use Rattle.std.specs.Prelude.{ℕ}
use Rattle.division.specs.declared.refusals.Layer.TheVariants.{House}
use Rattle.division.specs.declared.refusals.Refusal.{Refusal}
use Rattle.houses.specs.declared.faults.Fault.{Fault}
use Rattle.houses.specs.declared.faults.Fault.TheVariants.{TooMany, BadAccount, Amount, SameAccount, NotReady, UnknownAccount, PayerShort, ReceiverFull}

-- a refusal of a house: its place is always 0
abbrev pub by_house : ℕ → Refusal
by_house n = record { number = n; layer = House; place = 0 }

abbrev pub refusal : Fault → Refusal
refusal TooMany = by_house 19
refusal BadAccount = by_house 26
refusal Amount = by_house 12
refusal SameAccount = by_house 22
refusal NotReady = by_house 51
refusal UnknownAccount = by_house 52
refusal PayerShort = by_house 53
refusal ReceiverFull = by_house 54
