-- The fields of a line.
use Rattle.std.specs.Prelude.{ℕ, ◌+◌, ◌-◌, ◌*◌, Bool, cond, not, ◌&&◌, ◌||◌, List, [], ◌∷◌, length, take, drop, Some, None, Option, ◌==◌, nat_le, slice_index_or}
use Rattle.std.specs.List.{prefix_len}
use Rattle.contribution.specs.declared.terms.Side.{Side}
use Rattle.contribution.specs.declared.terms.Side.TheVariants.{Bought, Sold}

-- what follows from something, if it is there
abbrev pub then : {X Y : Type 0} → Option X → (X → Option Y) → Option Y
then None f = None
then (Some x) f = f x

-- any byte but the one
abbrev pub but : ℕ → ℕ → Bool
but end b = not (b == end)

-- a byte of a field: any but the blank that parts two
abbrev pub field_byte : ℕ → Bool
field_byte b = but 32 b

-- a blank and the field behind it, with the bytes that are left
abbrev pub field : List ℕ → Option (List ℕ × List ℕ)
field [] = None
field (b ∷ s) = cond (b == 32) (Some (take (prefix_len field_byte s) s, drop (prefix_len field_byte s) s)) None

abbrev pub digit : ℕ → Bool
digit b = nat_le 48 b && nat_le b 57

-- 1 to 10 digits, the first not 0 where there are more
abbrev pub is_number : List ℕ → Bool
is_number f = nat_le 1 (length f) && (nat_le (length f) 10 && (prefix_len digit f == length f && (length f == 1 || not (slice_index_or f 0 48 == 48))))

-- the value of digits that come after n
abbrev pub value : ℕ → List ℕ → ℕ
value n [] = n
value n (b ∷ f) = value (n * 10 + (b - 48)) f

abbrev pub number : List ℕ → Option ℕ
number f = cond (is_number f) (Some (value 0 f)) None

-- any 12 bytes without a blank
abbrev pub isin : List ℕ → Option (List ℕ)
isin f = cond (length f == 12) (Some f) None

-- K or S
abbrev pub side : List ℕ → Option Side
side [] = None
side (b ∷ []) = cond (b == 75) (Some Bought) (cond (b == 83) (Some Sold) None)
side (b ∷ (c ∷ f)) = None

-- what was read, with the bytes that are left
abbrev pub paired : {X : Type 0} → Option X → List ℕ → Option (X × List ℕ)
paired o s = then o (λ x. Some (x, s))

-- the next field read as something, with the bytes that are left
abbrev pub next : {X : Type 0} → (List ℕ → Option X) → List ℕ → Option (X × List ℕ)
next reads s = then (field s) (λ f. paired (reads f.0) f.1)

-- nothing is left
abbrev pub last : {X : Type 0} → List ℕ → X → Option X
last [] x = Some x
last (b ∷ s) x = None

-- a number and nothing else
abbrev pub only : List ℕ → Option ℕ
only s = then (next number s) (λ n. last n.1 n.0)
