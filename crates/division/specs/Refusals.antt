-- What a refusal tells, and what an answer is in those terms.
use Rattle.std.specs.Prelude.{ℕ, ◌+◌, Bool, cond, List, [], ◌∷◌, ◌++◌, Ok, Err, codes, Result}
use Rattle.division.specs.declared.refusals.Layer.{Layer}
use Rattle.division.specs.declared.refusals.Layer.TheVariants.{Division, Contribution, House, Book, Sheet}
use Rattle.division.specs.declared.refusals.Refusal.{Refusal}
use Rattle.division.specs.declared.faults.Fault.{Fault}
use Rattle.division.specs.declared.faults.Fault.TheVariants.{Things, Amount, NoWeight}

-- d, c, h, b and s
abbrev pub letter : Layer → ℕ
letter Division = 100
letter Contribution = 99
letter House = 104
letter Book = 98
letter Sheet = 115

-- a refusal of the division: its place is always 0
abbrev pub by_division : ℕ → Refusal
by_division n = record { number = n; layer = Division; place = 0 }

abbrev pub refusal : Fault → Refusal
refusal Things = by_division 25
refusal Amount = by_division 12
refusal NoWeight = by_division 40

-- a fault in words
abbrev pub reason : Fault → List ℕ
reason Things = codes "more than 64 weights, or weights above 4,000,000,000 in sum"
reason Amount = codes "the amount is above 4,000,000,000"
reason NoWeight = codes "the weights sum to 0"

-- a call's answer, its fault told as a refusal
abbrev pub answer : {V E : Type 0} → (E → Refusal) → Result V E → Result V Refusal
answer tells (Ok v) = Ok v
answer tells (Err e) = Err (tells e)

-- a check: whether it finds a fault, and the refusal that it then makes
abbrev pub Check : Type 0
Check = Bool × Refusal

-- the first check in order that finds a fault refuses; where none does, the value is the answer
abbrev pub checked : {V : Type 0} → List Check → V → Result V Refusal
checked [] v = Ok v
checked (c ∷ cs) v = cond c.0 (Err c.1) (checked cs v)

-- checks with no value to answer
abbrev pub clear : List Check → Result (Unit {0}) Refusal
clear cs = checked cs tt

-- the checks of each thing of a list in order, f telling those of one at its position, counted from i
abbrev pub each_from : {X : Type 0} → (ℕ → X → List Check) → ℕ → List X → List Check
each_from f i [] = []
each_from f i (x ∷ xs) = f i x ++ each_from f (i + 1) xs

abbrev pub each : {X : Type 0} → (ℕ → X → List Check) → List X → List Check
each f xs = each_from f 0 xs

-- what is left behind an answer: the new state where the call was made, the old one where it was refused
abbrev pub after : {V E S : Type 0} → Result V E → S → S → S
after (Ok v) new old = new
after (Err e) new old = old
