-- The division of an amount by weights.
use Rattle.std.specs.Prelude.{ℕ, ◌+◌, ◌-◌, ◌*◌, ◌/◌, not, ◌||◌, List, [], ◌∷◌, map, length, take, sum, Result, ◌==◌, nat_lt}
use Rattle.std.specs.List.{range_with_len}
use Rattle.division.specs.declared.refusals.Refusal.{Refusal}
use Rattle.division.specs.Refusals.{by_division, clear}

-- what the first k weights come to of the amount a, rounded down
abbrev pub due : ℕ → List ℕ → ℕ → ℕ
due a ws k = a * sum (take k ws) / sum ws

-- the part of the thing at k
abbrev pub part : ℕ → List ℕ → ℕ → ℕ
part a ws k = due a ws (k + 1) - due a ws k

abbrev pub parts_of : ℕ → List ℕ → List ℕ
parts_of a ws = map (part a ws) (range_with_len 0 (length ws))

-- whether a list of n parts can hold the division of a by ws, and if not why
abbrev pub verdict : ℕ → List ℕ → ℕ → Result (Unit {0}) Refusal
verdict a ws n =
    clear
    ((nat_lt 64 (length ws) || (not (n == length ws) || nat_lt 4000000000 (sum ws)), by_division 25)
    ∷ (nat_lt 4000000000 a, by_division 12)
    ∷ (sum ws == 0, by_division 40) ∷ [])
