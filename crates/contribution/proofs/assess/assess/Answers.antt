use Rattle.std.proofs.Common.{◌≡◌, max, false, ◌||◌, ltb, length, Ok, ap, ◌∙◌, arith}
use Rattle.std.proofs.lemmas.Result.{err_from_is_err_and}
use Rattle.std.proofs.lemmas.Bool.Decides.{nat_tests}
use Rattle.division.specs.Refusals.{clear}
use Rattle.contribution.specs.Checks.{trades_checks}
use Rattle.contribution.specs.Steps.{provisional, calculated}
use Rattle.contribution.proofs.Assessing.{by_securities, by_trades, too_high, accepted, summed_up}
use Rattle.contribution.proofs.assess.assess.Goals as goal
use Rattle.contribution.proofs.assess.assess.Goals.{After-check, In_ok-tally, After-max-calculated}

few : (c : After-check) → (ltb c.args.limits.securities (length c.args.securities.now) || ltb c.args.limits.trades (length c.args.trades.now)) ≡ false
few c = grind (arith, nat_tests)

pub returns-in_err-listed-clause-answer : goal.returns-in_err-listed-clause-answer
returns-in_err-listed-clause-answer c =
    let p = err_from_is_err_and c.from_residual.result c.from_residual.ensures.1 in
    rw (p.1, p.2) (by_securities _ _ c.args.securities.now c.args.trades.now _ (few (goal.at.returns-in_err-listed-clause-answer c).After-check) _ c.in_err-listed.ensures.refused)

pub returns-in_err-tally-clause-answer : goal.returns-in_err-tally-clause-answer
returns-in_err-tally-clause-answer c =
    let p = err_from_is_err_and c.from_residual-in_err-tally.result c.from_residual-in_err-tally.ensures.1 in
    rw (p.1, p.2) (by_trades _ _ c.args.securities.now c.args.trades.now _ (few (goal.at.returns-in_err-tally-clause-answer c).After-check)
    c.in_ok-listed.ensures.passed _ (rw c.in_ok-listed.ensures.same at c.in_err-tally.ensures.answer))

traded : (c : In_ok-tally) → Ok tt ≡ clear (trades_checks c.args.securities.now c.args.trades.now)
traded c = rw c.in_ok-listed.ensures.same at c.in_ok-tally.ensures.answer

-- WW and W as they were summed
steps : (c : After-max-calculated) → (c.provisional-provisional.result ≡ provisional c.args.securities.now c.args.trades.now) × (c.max-calculated.result ≡ calculated c.args.securities.now c.args.trades.now)
steps c =
    let listed = c.in_ok-listed.listed.securities.now in
    let p : c.provisional-provisional.result ≡ provisional listed c.args.trades.now =
    c.provisional-provisional.ensures ∙ rw (c.summed.ensures.risk, c.summed.ensures.up, c.summed.ensures.down) (summed_up (length c.args.positions.now) listed c.args.trades.now c.tally.new.positions c.in_ok-tally.ensures.positions) in
    let e = rw c.in_ok-listed.ensures.same at p in
    (e, c.max-calculated.ensures ∙ ap (λ w. max w 2000000) e)

pub returns-then-calculated-gt-HIGHEST-clause-answer : goal.returns-then-calculated-gt-HIGHEST-clause-answer
returns-then-calculated-gt-HIGHEST-clause-answer c =
    let at = goal.at.returns-then-calculated-gt-HIGHEST-clause-answer c in
    too_high _ _ c.args.securities.now c.args.trades.now _ (few at.After-check) c.in_ok-listed.ensures.passed (traded at.In_ok-tally)
    (rw (steps at.After-max-calculated).1 at c.if-calculated-gt-HIGHEST.true)

pub returns-clause-answer : goal.returns-clause-answer
returns-clause-answer c =
    let at = goal.at.returns-clause-answer c in
    let e = steps at.After-max-calculated in
    ap (λ p. Ok (p, c.max-calculated.result)) e.0 ∙ ap (λ q. Ok (provisional c.args.securities.now c.args.trades.now, q)) e.1
    ∙ accepted _ _ c.args.securities.now c.args.trades.now _ (few at.After-check) c.in_ok-listed.ensures.passed (traded at.In_ok-tally)
    (rw e.1 at c.if-calculated-gt-HIGHEST.false)
