-- The ten calls on a book: what each checks, answers and leaves.
use Rattle.std.specs.Prelude.{ℕ, ◌+◌, Bool, true, false, List, Ok, Err, Result, nat_lt}
use Rattle.division.specs.declared.refusals.Refusal.{Refusal}
use Rattle.division.specs.Refusals.{Check, checked, after}
use Rattle.contribution.specs.declared.terms.Security.{Security}
use Rattle.contribution.specs.declared.terms.Trade.{Trade}
use Rattle.contribution.specs.Steps.{minimum}
pub use Rattle.book.specs.declared.answers.Answer.{Answer}
pub use Rattle.book.specs.declared.answers.Answer.TheVariants.{Amount, Paid, Groups, Number}
use Rattle.book.specs.declared.groups.Group.TheVariants.{OwnBase, OwnReserve, OtherBases, OtherReserves}
use Rattle.book.specs.Rows.{share, row_of}
use Rattle.book.specs.Groups.{pays}
use Rattle.book.specs.States.{State, join_checks, joined, update_checks, updated_to, updated, missing, excess, regulate_checks, regulated, income_checks, earned, open_checks, case_opened, use_checks, used, recover_checks, recovered, close_checks, closed, leave_checks, left, other_checks, transferred}

-- a call with what it is given; a case is told by its number
pub data Call : Type 0 where
  Join : ℕ → Call
  Update : ℕ → List Security → List Trade → Call
  Regulate : ℕ → Call
  Income : ℕ → Call
  OpenCase : ℕ → Call
  Use : ℕ → ℕ → Call
  Recover : ℕ → ℕ → Call
  Close : ℕ → Call
  Leave : ℕ → Call
  OtherTransfer : ℕ → ℕ → ℕ → Call

-- what a call checks, in order, the house being ready or not
abbrev pub checks : Call → Bool → State → List Check
checks (Join code) ready s = join_checks ready s code
checks (Update code ss ts) ready s = update_checks s code ss ts
checks (Regulate code) ready s = regulate_checks ready s code
checks (Income amount) ready s = income_checks ready s amount
checks (OpenCase code) ready s = open_checks s code
checks (Use n amount) ready s = use_checks ready s n amount
checks (Recover n amount) ready s = recover_checks ready s n amount
checks (Close n) ready s = close_checks s n
checks (Leave code) ready s = leave_checks ready s code
checks (OtherTransfer from to amount) ready s = other_checks ready s from to amount

-- what it answers where no check refuses
abbrev pub value : Call → State → Answer
value (Join code) s = Amount minimum
value (Update code ss ts) s = Amount (updated_to s code ss ts)
value (Regulate code) s = Paid (missing s code) (excess s code)
value (Income amount) s = Amount amount
value (OpenCase code) s = Number (s.opened + 1)
value (Use n amount) s = Groups (pays OwnBase s.rows amount) (pays OwnReserve s.rows amount) (pays OtherBases s.rows amount) (pays OtherReserves s.rows amount)
value (Recover n amount) s = Amount amount
value (Close n) s = Number n
value (Leave code) s = Amount (share (row_of s.rows code))
value (OtherTransfer from to amount) s = Amount amount

-- what it leaves where no check refuses
abbrev pub effect : Call → State → State
effect (Join code) s = joined s code
effect (Update code ss ts) s = updated s code ss ts
effect (Regulate code) s = regulated s code
effect (Income amount) s = earned s amount
effect (OpenCase code) s = case_opened s code
effect (Use n amount) s = used s amount
effect (Recover n amount) s = recovered s amount
effect (Close n) s = closed s
effect (Leave code) s = left s code
effect (OtherTransfer from to amount) s = transferred s from to amount

-- the answer or the refusal, as it is filed
abbrev pub said : Call → Bool → State → Result Answer Refusal
said k ready s = checked (checks k ready s) (value k s)

-- the book after the call: a refused one changes nothing
abbrev pub next : Call → Bool → State → State
next k ready s = after (said k ready s) (effect k s) s

-- whether an accepted call moves money
abbrev pub moves : Call → State → Bool
moves (Join code) s = true
moves (Update code ss ts) s = false
moves (Regulate code) s = nat_lt 0 (missing s code + excess s code)
moves (Income amount) s = true
moves (OpenCase code) s = false
moves (Use n amount) s = true
moves (Recover n amount) s = true
moves (Close n) s = false
moves (Leave code) s = nat_lt 0 (share (row_of s.rows code))
moves (OtherTransfer from to amount) s = true

-- the answer of a call as it is filed
abbrev pub entered : {V : Type 0} → (V → Answer) → Result V Refusal → Result Answer Refusal
entered f (Ok v) = Ok (f v)
entered f (Err e) = Err e
