-- What the faults of the sheet tell.
use Rattle.std.specs.Prelude.{ℕ}
use Rattle.division.specs.declared.refusals.Layer.TheVariants.{Sheet}
use Rattle.division.specs.declared.refusals.Refusal.{Refusal}
use Rattle.sheet.specs.declared.faults.Fault.{Fault}
use Rattle.sheet.specs.declared.faults.Fault.TheVariants.{TooMany, NoMark, BadLine}

abbrev pub number : Fault → ℕ
number TooMany = 19
number NoMark = 23
number BadLine = 24

-- its place is the line
abbrev pub refusal : Fault → ℕ → Refusal
refusal fault line = record { number = number fault; layer = Sheet; place = line }
