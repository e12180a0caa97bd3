use Rattle.std.proofs.Common.{◌≡◌, ◌+◌, Some, Ok, Err, Result, refl, ap, sym, ◌∙◌}
use Rattle.std.specs.Result.{MatchResult, IsErrAnd}
use Rattle.sheet.specs.Lines.{said, items}
use Rattle.sheet.specs.Days.{head}
use Rattle.sheet.proofs.Heads.{head_more}
use Rattle.sheet.proofs.heading.read_head.Goals as goal

-- what `map_err` leaves as it was
mapped : {A E F : Type 0} (r : Result A E) (m : Result A F) (P : E → F → Type 0) (x : A) → MatchResult r (λ y. m ≡ Ok y) (λ e. IsErrAnd m (P e)) → m ≡ Ok x → r ≡ Ok x
mapped {A = A} {F = F} (Ok y) m P x h e = let same : ◌≡◌ {A = Result A F} (Ok y) (Ok x) = sym h ∙ e in let is : y ≡ x = cc in ap (λ z. Ok z) is
mapped (Err y) (Ok z) P x h e = absurd h
mapped (Err y) (Err z) P x h e = cc

pub loop-n-preserved : goal.loop-n-preserved
loop-n-preserved c =
    let went = c.in-Some.ensures.line in
    let t = c.next_line.new.self.lines.rest.now in
    let os = c.push.new.self.list.items in
    let found = mapped c.in_head.result c.map_err.result _ (Some c.in-Some-2.opening) c.map_err.ensures.cases (c.in_ok-opening.was ∙ ap (λ o. Ok o) c.in-Some-2.is) in
    let pushed = mapped c.push.result c.map_err-in-Some.result _ tt c.map_err-in-Some.ensures.cases c.in_ok-map_err.was in
    record {
      same = refl;
      left =
          ap (λ m. head (items t) m os) (c.in-Some.ensures.next ∙ ap (λ m. m + 1) c.in-Some.ensures.number)
          ∙ head_more c.loop-n.behind.lines.rest.now t c.loop-n.behind.number c.loop-n.accounts.list.items os (said c.in-Some.line) c.in-Some-2.opening went.0 went.1 went.2 (sym found ∙ c.in_head.ensures) (sym pushed ∙ c.push.ensures.stop) c.push.ensures.items
          ∙ c.loop-n.invariant.left;
    }
