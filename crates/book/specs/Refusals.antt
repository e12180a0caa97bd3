-- What the faults of the book tell; those of lower layers tell what they told there.
use Rattle.std.specs.Prelude.{ℕ}
use Rattle.division.specs.declared.refusals.Layer.TheVariants.{Book}
use Rattle.division.specs.declared.refusals.Refusal.{Refusal}
use Rattle.contribution.specs.Refusals as contribution
use Rattle.houses.specs.Refusals as houses
use Rattle.book.specs.declared.faults.Fault.{Fault}
use Rattle.book.specs.declared.faults.Fault.TheVariants.{Code, Amount, FundNamed, NoRow, HasRow, Full, Limit, NotActive, CaseOpen, OtherCase, AboveShares, ChargedLimit, NoBase, AboveCharged, NoNumber, FundNotEmpty, Contribution, House}

-- a refusal of the book: its place is always 0
abbrev pub by_book : ℕ → Refusal
by_book n = record { number = n; layer = Book; place = 0 }

abbrev pub refusal : Fault → Refusal
refusal Code = by_book 11
refusal Amount = by_book 12
refusal FundNamed = by_book 21
refusal NoRow = by_book 31
refusal HasRow = by_book 32
refusal Full = by_book 33
refusal Limit = by_book 34
refusal NotActive = by_book 35
refusal CaseOpen = by_book 36
refusal OtherCase = by_book 37
refusal AboveShares = by_book 38
refusal ChargedLimit = by_book 39
refusal NoBase = by_book 40
refusal AboveCharged = by_book 41
refusal NoNumber = by_book 42
refusal FundNotEmpty = by_book 43
refusal (Contribution e) = contribution.refusal e
refusal (House e) = houses.refusal e
