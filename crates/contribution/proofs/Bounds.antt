-- Within the ranges of securities and trades no sum and no product is large.
use Rattle.std.proofs.Common.{◌≡◌, ℕ, ◌+◌, ◌*◌, ◌^◌, ◌≤◌, true, arith}
use Rattle.std.proofs.lemmas.Nat.{mul-le}
use Rattle.std.proofs.lemmas.Bool.Decides.{nat_tests}
use Rattle.contribution.specs.declared.terms.Security.{Security}
use Rattle.contribution.specs.declared.terms.Trade.{Trade}
use Rattle.contribution.specs.declared.positions.Position.{Position}
use Rattle.contribution.specs.Checks.{dealt, priced}
use Rattle.contribution.specs.Steps.{distance}
use Rattle.contribution.specs.Positions.{Few, at_risk, settled}

pub record Deal (t : Trade) : Type 0 where
  pub quantity : t.quantity ≤ 1000000
  pub money : t.quantity * t.price ≤ 10 ^ 14

pub deal : (t : Trade) → dealt t ≡ true → Deal t
deal t e =
    let q : t.quantity ≤ 1000000 = grind (arith, nat_tests) in
    let p : t.price ≤ 100000000 = grind (arith, nat_tests) in
    record { quantity = q; money = mul-le t.quantity t.price 1000000 100000000 q p }

pub record Terms (s : Security) : Type 0 where
  pub price : s.price ≤ 100000000
  pub risk : s.risk ≤ 10000
  pub rate : s.rate ≤ 100000

pub terms : (s : Security) → priced s ≡ true → Terms s
terms s e = record { price = grind (arith, nat_tests); risk = grind (arith, nat_tests); rate = grind (arith, nat_tests) }

module _ (s : Security) (p : Position) (few : Few 65535 p) (t : Terms s) where
  valued : distance p.bought p.sold * s.price ≤ 10 ^ 19
  valued = mul-le (distance p.bought p.sold) s.price (10 ^ 11) 100000000 (omega arith) t.price

  risked : distance p.bought p.sold * s.price * s.risk ≤ 10 ^ 23
  risked = mul-le (distance p.bought p.sold * s.price) s.risk (10 ^ 19) 10000 valued t.risk

  pub at_risk_bound : at_risk s p ≤ 10 ^ 28
  at_risk_bound = mul-le (distance p.bought p.sold * s.price * s.risk) s.rate (10 ^ 23) 100000 risked t.rate

pub settled_bound : (s : Security) (m q : ℕ) → Terms s → m ≤ 65535 * 10 ^ 14 → q ≤ 65535 * 1000000 → settled s m q ≤ 10 ^ 25
settled_bound s m q t hm hq =
    let b : q * s.price ≤ 65535 * 1000000 * 100000000 = mul-le q s.price (65535 * 1000000) 100000000 hq t.price in
    mul-le (m + q * s.price) s.rate (10 ^ 20) 100000 (omega arith) t.rate
