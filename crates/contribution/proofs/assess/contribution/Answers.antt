use Rattle.std.proofs.Common.{ℕ, ap}
use Rattle.std.proofs.lemmas.Result.{err_from_is_err_and}
use Rattle.division.proofs.Checks.{checked_refused, checked_made}
use Rattle.contribution.specs.Steps.{provisional, calculated}
use Rattle.contribution.specs.Contribution.{all_checks, assessment}
use Rattle.contribution.proofs.Reliance.{sound}
use Rattle.contribution.proofs.assess.contribution.Goals as goal

pub returns-in_err-provisional-clause-verdict : goal.returns-in_err-provisional-clause-verdict
returns-in_err-provisional-clause-verdict c =
    let ss = c.args.securities.now in
    let ts = c.args.trades.now in
    let p = err_from_is_err_and c.from_residual.result c.from_residual.ensures.1 in
    let steps : ℕ × ℕ = (provisional ss ts, calculated ss ts) in
    rw (p.1, p.2) (checked_refused (all_checks ss ts) steps (assessment ss ts c.args.last) _ c.in_err-provisional.ensures.answer)

pub returns-clause-verdict : goal.returns-clause-verdict
returns-clause-verdict c =
    let ss = c.args.securities.now in
    let ts = c.args.trades.now in
    let steps : ℕ × ℕ = (provisional ss ts, calculated ss ts) in
    let given : ℕ × ℕ = (c.in_ok-provisional.provisional, c.in_ok-provisional.calculated) in
    let e = checked_made (all_checks ss ts) steps given (assessment ss ts c.args.last) c.in_ok-provisional.ensures.answer in
    rw (c.renewed-required.ensures, c.in_ok-provisional.ensures.positions, ap (λ x. x.0) e.0, ap (λ x. x.1) e.0) e.1

pub returns-clause-sound : goal.returns-clause-sound
returns-clause-sound c = sound c.args.securities.now c.args.trades.now c.args.last _ (returns-clause-verdict c)
