-- What the lines of a sheet say.
use Rattle.std.specs.Prelude.{◌≡◌, ℕ, zero, suc, ◌+◌, ◌<◌, Bool, cond, List, [], ◌∷◌, length, take, drop, Some, None, Ok, Err, Option, Result, ◌==◌, nat_lt}
use Rattle.std.specs.Option.{unwrap_or, option_map}
use Rattle.std.specs.List.{prefix_len}
use Rattle.contribution.specs.declared.terms.Security.{Security}
use Rattle.contribution.specs.declared.terms.Trade.{Trade}
use Rattle.houses.specs.declared.openings.Opening.{Opening}
use Rattle.sheet.specs.declared.lines.Line.{Line}
use Rattle.sheet.specs.declared.lines.Line.TheVariants as line
use Rattle.sheet.specs.declared.lines.BadLine.{BadLine}
use Rattle.sheet.specs.declared.lines.BadLine.TheVariants as bad
use Rattle.sheet.specs.declared.lines.Request.{Request}
use Rattle.sheet.specs.declared.lines.Request.TheVariants.{Join, Update, Regulate, OpenCase, Leave, Income, Use, Recover, Close, Transfer}
use Rattle.sheet.specs.Fields.{then, but, number, isin, side, next, last, only}

-- what a line says
pub data Item : Type 0 where
  Account : Opening → Item
  Listed : Security → Item
  -- of the member with the code
  Traded : ℕ → Trade → Item
  Asked : Request → Item
  -- not well formed, beginning with H, and any other that is not
  BadAccount : Item
  Bad : Item

-- account, balance
abbrev pub account : List ℕ → Option Item
account s = then (next number s) (λ a. then (next number a.1) (λ b. last b.1 (Account (record { account = a.0; balance = b.0 }))))

-- ISIN, settlement price, risk, rate
abbrev pub security : List ℕ → Option Item
security s =
    then (next isin s) (λ i. then (next number i.1) (λ p. then (next number p.1) (λ r. then (next number r.1) (λ e.
    last e.1 (Listed (record { isin = record { bytes = i.0 }; price = p.0; risk = r.0; rate = e.0 }))))))

-- code, ISIN, side, quantity, price
abbrev pub trade : List ℕ → Option Item
trade s =
    then (next number s) (λ c. then (next isin c.1) (λ i. then (next side i.1) (λ d. then (next number d.1) (λ q. then (next number q.1) (λ p.
    last p.1 (Traded c.0 (record { isin = record { bytes = i.0 }; side = d.0; quantity = q.0; price = p.0 })))))))

-- a code or an amount
abbrev pub one : (ℕ → Request) → List ℕ → Option Item
one asks s = option_map (λ n. Asked (asks n)) (only s)

-- from, to, amount
abbrev pub transfer : List ℕ → Option Item
transfer s = then (next number s) (λ f. then (next number f.1) (λ t. then (next number t.1) (λ n. last n.1 (Asked (Transfer f.0 t.0 n.0)))))

-- the line's letter and the fields behind it: H, P, T, J, U, R, D, L, I, W, B, C, X
abbrev pub by_letter : ℕ → List ℕ → Option Item
by_letter b s =
    cond (b == 72) (account s)
    (cond (b == 80) (security s)
    (cond (b == 84) (trade s)
    (cond (b == 74) (one Join s)
    (cond (b == 85) (one Update s)
    (cond (b == 82) (one Regulate s)
    (cond (b == 68) (one OpenCase s)
    (cond (b == 76) (one Leave s)
    (cond (b == 73) (one Income s)
    (cond (b == 87) (one Use s)
    (cond (b == 66) (one Recover s)
    (cond (b == 67) (last s (Asked Close))
    (cond (b == 88) (transfer s) None))))))))))))

-- a line that is not well formed
abbrev pub malformed : List ℕ → Item
malformed [] = Bad
malformed (b ∷ s) = cond (b == 72) BadAccount Bad

-- the bytes of a line
abbrev pub read : List ℕ → Item
read [] = Bad
read (b ∷ s) = unwrap_or (by_letter b s) (malformed (b ∷ s))

-- a byte that does not end a line
abbrev pub text_byte : ℕ → Bool
text_byte b = but 10 b

-- what the first line says, which is not well formed where no byte 10 ends it, and the bytes behind it
abbrev pub first : List ℕ → Item
first s = cond (nat_lt (prefix_len text_byte s) (length s)) (read (take (prefix_len text_byte s) s)) (malformed s)

abbrev pub rest : List ℕ → List ℕ
rest s = drop (prefix_len text_byte s + 1) s

-- what at most k lines say, one after the other
abbrev pub items_in : ℕ → List ℕ → List Item
items_in zero s = []
items_in (suc k) s = cond (length s == 0) [] (first s ∷ items_in k (rest s))

-- what the lines say
abbrev pub items : List ℕ → List Item
items s = items_in (length s) s

-- a line as it was read, well formed or not
abbrev pub told : Line → Item
told (line.Account a) = Account a
told (line.Security i p r e) = Listed (record { isin = record { bytes = i.now }; price = p; risk = r; rate = e })
told (line.Trade c i d q p) = Traded c (record { isin = record { bytes = i.now }; side = d; quantity = q; price = p })
told (line.Call r) = Asked r

abbrev pub said : Result Line BadLine → Item
said (Ok l) = told l
said (Err bad.Account) = BadAccount
said (Err bad.Other) = Bad

-- one line read: what it says, and the bytes that are left
abbrev pub Stepped : List ℕ → Option (Result Line BadLine) → List ℕ → Type 0
Stepped s None t = (length s ≡ 0) × (t ≡ s)
Stepped s (Some r) t = (0 < length s) × (said r ≡ first s) × (t ≡ rest s)
