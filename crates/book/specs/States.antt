-- The state of a book, and what each call checks, answers and leaves.
use Rattle.std.specs.Prelude.{ℕ, ◌+◌, ◌-◌, Bool, false, cond, not, ◌&&◌, ◌||◌, List, [], ◌∷◌, ◌++◌, map, length, is_some, Some, None, sum, Option, ◌==◌, nat_le, nat_lt}
use Rattle.division.specs.Division.{parts_of}
use Rattle.division.specs.Refusals.{Check}
use Rattle.contribution.specs.declared.terms.Security.{Security}
use Rattle.contribution.specs.declared.terms.Trade.{Trade}
use Rattle.contribution.specs.Checks.{within}
use Rattle.contribution.specs.Contribution as contribution
use Rattle.contribution.specs.Steps.{minimum, calculated, renewed}
use Rattle.houses.specs.Balances.{held, moved}
use Rattle.houses.specs.Balances as house
use Rattle.houses.specs.Refusals.{by_house}
use Rattle.book.specs.declared.rows.Row.{Row}
use Rattle.book.specs.declared.rows.Standing.TheVariants.{Active}
use Rattle.book.specs.declared.rows.OpenCase.{OpenCase as Open}
use Rattle.book.specs.declared.standings.Event.{Event}
use Rattle.book.specs.declared.standings.Event.TheVariants.{Update, Regulate, OpenCase}
use Rattle.book.specs.Refusals.{by_book}
use Rattle.book.specs.Standings.{next}
use Rattle.book.specs.declared.groups.Group.TheVariants.{OwnBase, OwnReserve, OtherBases, OtherReserves}
use Rattle.book.specs.declared.groups.Basis.TheVariants.{Base, Charged}
use Rattle.book.specs.Groups.{weights, pays, used_rows}
use Rattle.book.specs.Rows.{share, shares, place, row_of, changed, without, required_as, based_as_required, standing_after, case_closed, credited}

pub record State : Type 0 where
  pub rows : List Row
  pub case : Option Open
  -- how many cases were opened
  pub opened : ℕ
  -- of the house below
  pub balances : ℕ → Option ℕ

-- other rows, with the house as it is after a transfer
abbrev pub with_rows : State → List Row → (ℕ → Option ℕ) → State
with_rows s rows balances = record { rows = rows; case = s.case; opened = s.opened; balances = balances }

-- a house over which a book can be opened
abbrev pub opening_checks : (ℕ → Option ℕ) → List Check
opening_checks b = (not (is_some (b 0)), by_house 52) ∷ (not (held (b 0) == 0), by_book 43) ∷ []

-- a new book
abbrev pub opened_over : (ℕ → Option ℕ) → State
opened_over b = record { rows = []; case = None; opened = 0; balances = b }

-- an amount more that would pass what all members may have in the fund
abbrev pub no_room : State → ℕ → Check
no_room s more = (nat_lt 4000000000 (shares s.rows + more), by_book 34)

-- a code that no member can have
abbrev pub bad_code : ℕ → Check
bad_code code = (not (within 10 9999 code), by_book 11)

-- the row of a member that joins
abbrev pub newcomer : ℕ → Row
newcomer code = record { code = code; standing = Active; base = minimum; reserve = 0; required = minimum; charged = 0 }

-- what the book itself checks of a join
abbrev pub admission : State → ℕ → List Check
admission s code =
    bad_code code
    ∷ (is_some (place s.rows code), by_book 32)
    ∷ (nat_le 64 (length s.rows), by_book 33)
    ∷ no_room s minimum ∷ []

-- the book's checks, and then the house's
abbrev pub join_checks : Bool → State → ℕ → List Check
join_checks ready s code = admission s code ++ house.checks ready s.balances code 0 minimum

-- the member's row comes last, and the fund has the minimum
abbrev pub joined : State → ℕ → State
joined s code = with_rows s (s.rows ++ newcomer code ∷ []) (moved s.balances code 0 minimum)

-- a transfer that is not the fund's
abbrev pub other_checks : Bool → State → ℕ → ℕ → ℕ → List Check
other_checks ready s from to amount = (from == 0 || (to == 0), by_book 21) ∷ house.checks ready s.balances from to amount

abbrev pub transferred : State → ℕ → ℕ → ℕ → State
transferred s from to amount = with_rows s s.rows (moved s.balances from to amount)

-- a code without a row
abbrev pub no_row : State → ℕ → Check
no_row s code = (not (is_some (place s.rows code)), by_book 31)

-- whether the member's standing forbids the call
abbrev pub forbidden : Event → State → ℕ → Check
forbidden event s code = (not (is_some (next (row_of s.rows code).standing event)), by_book 35)

-- the contribution is judged before the member is looked for
abbrev pub update_checks : State → ℕ → List Security → List Trade → List Check
update_checks s code ss ts = bad_code code ∷ (contribution.all_checks ss ts ++ (no_row s code ∷ forbidden Update s code ∷ []))

-- what the member is required to contribute from now on
abbrev pub updated_to : State → ℕ → List Security → List Trade → ℕ
updated_to s code ss ts = renewed (calculated ss ts) (row_of s.rows code).required

-- the member's required contribution changes, and nothing else
abbrev pub updated : State → ℕ → List Security → List Trade → State
updated s code ss ts = with_rows s (changed (required_as (updated_to s code ss ts)) s.rows code) s.balances

-- what is paid between a member and the fund: in, or out, or nothing
abbrev pub settle_checks : Bool → (ℕ → Option ℕ) → ℕ → ℕ → ℕ → List Check
settle_checks ready b code paid_in paid_out =
    cond (nat_lt 0 paid_in) (house.checks ready b code 0 paid_in) (cond (nat_lt 0 paid_out) (house.checks ready b 0 code paid_out) [])

-- the balances after such a payment
abbrev pub settled : (ℕ → Option ℕ) → ℕ → ℕ → ℕ → ℕ → Option ℕ
settled b code paid_in paid_out = cond (nat_lt 0 paid_in) (moved b code 0 paid_in) (cond (nat_lt 0 paid_out) (moved b 0 code paid_out) b)

-- a case that is open
abbrev pub case_open : State → Check
case_open s = (is_some s.case, by_book 36)

-- what a member still has to pay in, and what it gets back
abbrev pub missing : State → ℕ → ℕ
missing s code = (row_of s.rows code).required - (row_of s.rows code).base

abbrev pub excess : State → ℕ → ℕ
excess s code = (row_of s.rows code).base - (row_of s.rows code).required

-- what the book itself checks of a regulate
abbrev pub regulation : State → ℕ → List Check
regulation s code =
    bad_code code
    ∷ no_row s code
    ∷ forbidden Regulate s code
    ∷ (is_some s.case && nat_lt 0 (excess s code), by_book 36)
    ∷ no_room s (missing s code) ∷ []

-- the difference is paid, if there is one
abbrev pub regulate_checks : Bool → State → ℕ → List Check
regulate_checks ready s code = regulation s code ++ settle_checks ready s.balances code (missing s code) (excess s code)

-- the member's base is what is required
abbrev pub regulated : State → ℕ → State
regulated s code = with_rows s (changed based_as_required s.rows code) (settled s.balances code (missing s code) (excess s code))

-- what the book itself checks of a leave
abbrev pub departure : State → ℕ → List Check
departure s code = bad_code code ∷ no_row s code ∷ case_open s ∷ []

-- what the member has is paid out, if it has anything
abbrev pub leave_checks : Bool → State → ℕ → List Check
leave_checks ready s code = departure s code ++ settle_checks ready s.balances code 0 (share (row_of s.rows code))

-- the member's row is gone
abbrev pub left : State → ℕ → State
left s code = with_rows s (without s.rows code) (settled s.balances code 0 (share (row_of s.rows code)))

-- one case at a time, against an active member, while there are numbers
abbrev pub open_checks : State → ℕ → List Check
open_checks s code = bad_code code ∷ no_row s code ∷ case_open s ∷ forbidden OpenCase s code ∷ (nat_le 65535 s.opened, by_book 42) ∷ []

-- a case with the next number, against the member
abbrev pub case_opened : State → ℕ → State
case_opened s code =
    record {
      rows = changed (standing_after OpenCase) s.rows code;
      case = Some (record { number = s.opened + 1; charged = 0; recovered = 0 });
      opened = s.opened + 1;
      balances = s.balances;
    }

-- whether the number is that of the open case
abbrev pub is_open : Option Open → ℕ → Bool
is_open None n = false
is_open (Some c) n = c.number == n

-- a case that is not the open one
abbrev pub other_case : State → ℕ → Check
other_case s n = (not (is_open s.case n), by_book 37)

abbrev pub close_checks : State → ℕ → List Check
close_checks s n = other_case s n ∷ []

-- the case is over: what it charged is forgotten, and its member is barred
abbrev pub closed : State → State
closed s = record { rows = map case_closed s.rows; case = None; opened = s.opened; balances = s.balances }

-- the weights of an income
abbrev pub bases : List Row → List ℕ
bases rows = weights Base rows

-- an amount that is 0 or too much
abbrev pub bad_amount : ℕ → Check
bad_amount amount = (not (within 1 4000000000 amount), by_book 12)

-- what the book itself checks of an income
abbrev pub earning : State → ℕ → List Check
earning s amount =
    bad_amount amount
    ∷ (sum (bases s.rows) == 0, by_book 40)
    ∷ no_room s amount ∷ []

abbrev pub income_checks : Bool → State → ℕ → List Check
income_checks ready s amount = earning s amount ++ house.checks ready s.balances 1 0 amount

-- divided by base onto the reserves
abbrev pub earned : State → ℕ → State
earned s amount = with_rows s (credited s.rows (parts_of amount (bases s.rows))) (moved s.balances 1 0 amount)

-- what the uses of the open case have charged, and what of it is not recovered
abbrev pub charged_of : Option Open → ℕ
charged_of None = 0
charged_of (Some c) = c.charged

abbrev pub unrecovered : Option Open → ℕ
unrecovered None = 0
unrecovered (Some c) = c.charged - c.recovered

-- the open case with more charged, and with more recovered
abbrev pub more_charged : ℕ → Option Open → Option Open
more_charged amount None = None
more_charged amount (Some c) = Some (record { number = c.number; charged = c.charged + amount; recovered = c.recovered })

abbrev pub more_recovered : ℕ → Option Open → Option Open
more_recovered amount None = None
more_recovered amount (Some c) = Some (record { number = c.number; charged = c.charged; recovered = c.recovered + amount })

-- what the book itself checks of a use
abbrev pub usage : State → ℕ → ℕ → List Check
usage s n amount =
    bad_amount amount
    ∷ other_case s n
    ∷ (nat_lt (shares s.rows) amount, by_book 38)
    ∷ (nat_lt 4000000000 (charged_of s.case + amount), by_book 39) ∷ []

abbrev pub use_checks : Bool → State → ℕ → ℕ → List Check
use_checks ready s n amount = usage s n amount ++ house.checks ready s.balances 0 1 amount

-- what each group pays
abbrev pub group_sums : State → ℕ → ℕ × ℕ × ℕ × ℕ
group_sums s amount = (pays OwnBase s.rows amount, pays OwnReserve s.rows amount, pays OtherBases s.rows amount, pays OtherReserves s.rows amount)

-- the amount is charged in four groups and goes to the settlement account
abbrev pub used : State → ℕ → State
used s amount =
    record {
      rows = used_rows s.rows amount;
      case = more_charged amount s.case;
      opened = s.opened;
      balances = moved s.balances 0 1 amount;
    }

-- what the book itself checks of a recovery
abbrev pub recovery : State → ℕ → ℕ → List Check
recovery s n amount =
    bad_amount amount
    ∷ other_case s n
    ∷ (nat_lt (unrecovered s.case) amount, by_book 41)
    ∷ no_room s amount ∷ []

abbrev pub recover_checks : Bool → State → ℕ → ℕ → List Check
recover_checks ready s n amount = recovery s n amount ++ house.checks ready s.balances 1 0 amount

-- divided by charged onto the reserves
abbrev pub recovered : State → ℕ → State
recovered s amount =
    record {
      rows = credited s.rows (parts_of amount (weights Charged s.rows));
      case = more_recovered amount s.case;
      opened = s.opened;
      balances = moved s.balances 1 0 amount;
    }
