-- What a call on the book answers and leaves, as a sheet tells it.
use Rattle.std.proofs.Common.{◌≡◌, ℕ, true, List, ◌++◌, Some, None, Ok, Err, Option, Result, sym, refl, ap, ◌∙◌}
use Rattle.division.specs.declared.refusals.Refusal.{Refusal}
use Rattle.division.specs.Refusals.{answer, after, checked}
use Rattle.division.proofs.Checks.{checked_made, checked_refused}
use Rattle.book.specs.declared.answers.Answer.{Answer}
use Rattle.std.specs.Option.{option_map}
use Rattle.book.specs.declared.rows.OpenCase.{OpenCase}
use Rattle.sheet.specs.declared.lines.Request.{Request}
use Rattle.sheet.specs.declared.lines.Request.TheVariants.{Close}
use Rattle.book.specs.States.{State}
use Rattle.book.specs.Calls.{Call, checks, value, effect, said, next, entered}
use Rattle.book.specs.Calls as call
use Rattle.contribution.specs.declared.terms.Security.{Security}
use Rattle.sheet.specs.declared.trades.MemberTrade.{MemberTrade}
use Rattle.sheet.specs.Days.{Day, in_case, call_of, answer_to, book_by, answered, asked, printed, ended, finish_with, finish}

-- days that are alike part by part, and a day with another book
pub alike : {t u : State} {ss vs : List Security} {ts us : List MemberTrade} → t ≡ u → ss ≡ vs → ts ≡ us → ◌≡◌ {A = Day} (record { book = t; securities = ss; trades = ts }) (record { book = u; securities = vs; trades = us })
alike b s t = λ i. record { book = b i; securities = s i; trades = t i }

pub with_book : (d : Day) {t u : State} → t ≡ u → ◌≡◌ {A = Day} (record { book = t; securities = d.securities; trades = d.trades }) (record { book = u; securities = d.securities; trades = d.trades })
with_book d e = alike e refl refl

-- the open case is the one with the number
pub of_case : (c : Option OpenCase) (n : ℕ) (f : ℕ → Call) → Some n ≡ option_map (λ o. o.number) c → in_case c f ≡ Some (f n)
of_case None n f e = cc
of_case (Some o) n f e = let same : o.number ≡ n = cc in ap (λ m. Some (f m)) same

-- a request by the contract of its call, which answers f of its value
module _ {V E : Type 0} (q : Request) (k : Call) (d : Day) (t : State) (tells : E → Refusal) (f : V → Answer) (v : V) (is : call_of q d ≡ Some k) (same : f v ≡ value k d.book) where
  abbrev Meets : Result V E → Type 0
  Meets r = answer tells r ≡ checked (checks k true d.book) v

  answers : (r : Result V E) → Meets r → entered f (answer tells r) ≡ said k true d.book
  answers (Ok u) e = let made = checked_made (checks k true d.book) v u (value k d.book) e in ap (λ x. Ok (f x)) made.0 ∙ ap Ok same ∙ made.1
  answers (Err x) e = checked_refused (checks k true d.book) v (value k d.book) (tells x) e

  leaves : (r : Result V E) → Meets r → t ≡ after r (effect k d.book) d.book → t ≡ next k true d.book
  leaves (Ok u) e left = left ∙ ap (λ x. after x (effect k d.book) d.book) (answers (Ok u) e)
  leaves (Err x) e left = left ∙ ap (λ x. after x (effect k d.book) d.book) (answers (Err x) e)

  pub by_call : (r : Result V E) → Meets r → t ≡ after r (effect k d.book) d.book →
      (entered f (answer tells r) ≡ answered q d) × (◌≡◌ {A = Day} (record { book = t; securities = d.securities; trades = d.trades }) (asked q d))
  by_call r e left =
      (answers r e ∙ ap (λ o. answer_to o d.book) (sym is), with_book d (leaves r e left ∙ ap (λ o. book_by o d.book) (sym is)))

-- what is printed at the end, where a case is held and where none is
module _ (n : ℕ) (d : Day) where
  pub finish_none : (c : Option OpenCase) → None ≡ option_map (λ o. o.number) c → ended d.book ≡ finish_with c n d
  finish_none None e = refl
  finish_none (Some o) e = cc

  pub finish_some : (k : ℕ) (a : Answer) (t : State) → Some k ≡ option_map (λ o. o.number) d.book.case → Ok a ≡ said (call.Close k) true d.book → t ≡ next (call.Close k) true d.book → printed n 67 (Ok a) ++ ended t ≡ finish n d
  finish_some k a t e answer left =
      let is = of_case d.book.case k call.Close e in
      let told : Ok a ≡ answered Close d = answer ∙ ap (λ o. answer_to o d.book) (sym is) in
      let book : t ≡ (asked Close d).book = left ∙ ap (λ o. book_by o d.book) (sym is) in
      ap (λ r. printed n 67 r ++ ended t) told ∙ ap (λ s. printed n 67 (answered Close d) ++ ended s) book ∙ by d.book.case e
    where
      by : (c : Option OpenCase) → Some k ≡ option_map (λ o. o.number) c → printed n 67 (answered Close d) ++ ended (asked Close d).book ≡ finish_with c n d
      by None e = cc
      by (Some o) e = refl
