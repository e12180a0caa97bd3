-- The table of figures: what the definitions give at the examples of the rules.
use Rattle.std.specs.Prelude.{◌≡◌, ℕ, true, List, [], ◌∷◌, map, pos, neg_ℤ, Ok, codes, Option}
use Rattle.division.specs.Division.{parts_of}
use Rattle.contribution.specs.declared.terms.Security.{Security}
use Rattle.contribution.specs.declared.terms.Side.{Side}
use Rattle.contribution.specs.declared.terms.Side.TheVariants.{Bought, Sold}
use Rattle.contribution.specs.declared.terms.Trade.{Trade}
use Rattle.houses.specs.declared.openings.Opening.{Opening}
use Rattle.houses.specs.Openings.{opened}
use Rattle.book.specs.declared.answers.Answer.TheVariants.{Paid, Groups}
use Rattle.book.specs.Calls.{Join, Income, OpenCase, Use, Recover, Regulate}
use Rattle.book.specs.Histories.{Turn, turn, book_after, filed}
use Rattle.book.specs.Laws.{Lawful}
use Rattle.contribution.specs.Steps.{value, gain, provisional, calculated, renewed}

abbrev account : ℕ → ℕ → Opening
account n balance = record { account = n; balance = balance }

abbrev security : ℕ → ℕ → ℕ → Security
security price risk rate = record { isin = record { bytes = codes "PLSHARE00018" }; price = price; risk = risk; rate = rate }

abbrev trade : Side → ℕ → ℕ → Trade
trade side quantity price = record { isin = record { bytes = codes "PLSHARE00018" }; side = side; quantity = quantity; price = price }

abbrev share : Security
share = security 1000 1250 10000

abbrev rising : List Trade
rising = trade Bought 50000 1040 ∷ trade Sold 20000 990 ∷ []

abbrev falling : List Trade
falling = trade Bought 20000 900 ∷ []

-- the house of the worked default, and its day up to the case, the latest call first
abbrev pub balances : ℕ → Option ℕ
balances = opened (account 0 0 ∷ account 1 100 ∷ account 10 2000000 ∷ account 11 3000000 ∷ account 12 2000000 ∷ account 13 2000000 ∷ [])

abbrev pub morning : List Turn
morning = turn (Income 100) true ∷ turn (Join 13) true ∷ turn (Join 12) true ∷ turn (Join 11) true ∷ turn (Join 10) true ∷ []

abbrev pub opened_case : List Turn
opened_case = turn (OpenCase 10) true ∷ morning

abbrev pub after_use : List Turn
after_use = turn (Use 1 5000000) true ∷ opened_case

abbrev pub after_recovery : List Turn
after_recovery = turn (Recover 1 1000000) true ∷ after_use

pub record Figures : Type 0 where
  pub ten_over_three : parts_of 10 (1 ∷ 1 ∷ 1 ∷ []) ≡ 3 ∷ 3 ∷ 4 ∷ []
  pub three_past_a_weight_of_0 : parts_of 3 (5 ∷ 0 ∷ 5 ∷ []) ≡ 1 ∷ 0 ∷ 2 ∷ []
  pub rising_value : value share rising ≡ 30000000
  pub rising_gain : gain share rising ≡ pos 2200000
  pub rising_provisional : provisional (share ∷ []) rising ≡ 5950000
  pub falling_gain : gain share falling ≡ neg_ℤ (pos 2000000)
  pub falling_provisional : provisional (share ∷ []) falling ≡ 2500000
  pub idle_provisional : provisional (share ∷ []) [] ≡ 0
  pub idle_calculated : calculated (share ∷ []) [] ≡ 2000000
  pub rounded_up_to_1 : provisional (security 101 1 43215 ∷ []) (trade Bought 1 101 ∷ []) ≡ 1
  pub a_tenth_keeps : renewed 6545000 5950000 ≡ 5950000
  pub more_than_a_tenth_replaces : renewed 6545001 5950000 ≡ 6545001
  -- the same calls as one history of a book
  pub income_shared : map (λ r. r.reserve) (book_after balances morning).rows ≡ 25 ∷ 25 ∷ 25 ∷ 25 ∷ []
  pub used_in_groups : filed balances opened_case (turn (Use 1 5000000) true) ≡ Ok (Groups 2000000 25 2999975 0)
  pub charged : map (λ r. r.charged) (book_after balances after_use).rows ≡ 2000025 ∷ 999991 ∷ 999992 ∷ 999992 ∷ []
  pub recovered : parts_of 1000000 (map (λ r. r.charged) (book_after balances after_use).rows) ≡ 400005 ∷ 199998 ∷ 199998 ∷ 199999 ∷ []
  pub recovered_reserves : map (λ r. r.reserve) (book_after balances after_recovery).rows ≡ 400005 ∷ 200023 ∷ 200023 ∷ 200024 ∷ []
  pub regulated : filed balances after_recovery (turn (Regulate 11) true) ≡ Ok (Paid 999991 0)
  pub held_to_the_law : Lawful balances (turn (Regulate 11) true ∷ after_recovery)
