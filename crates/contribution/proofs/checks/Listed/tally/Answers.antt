use Rattle.std.proofs.Common.{length, get_or, unwrap_or, ◌∙◌, arith}
use Rattle.std.proofs.lemmas.List.{take_all}
use Rattle.std.proofs.lemmas.Result.{err_from_is_err_and}
use Rattle.division.proofs.Checks.{each_on, each_off}
use Rattle.contribution.specs.Checks.{trade_checks}
use Rattle.contribution.specs.Isins.{place}
use Rattle.contribution.proofs.Bounds.{deal}
use Rattle.contribution.proofs.Walks.{no_trade}
use Rattle.contribution.proofs.Tallies.{whole_list, held_more, few_turn}
use Rattle.contribution.proofs.checks.Listed.tally.Goals as goal

pub returns-in_err-k-clause-answer : goal.returns-in_err-k-clause-answer
returns-in_err-k-clause-answer c =
    let ss = c.args.self.now.securities.now in
    let p = err_from_is_err_and c.from_residual.result c.from_residual.ensures.1 in
    rw (p.1, p.2) (each_off (trade_checks ss) c.args.trades.now c.loop-i.i no_trade (unwrap_or (place ss (get_or c.args.trades.now c.loop-i.i no_trade).isin.bytes) 0) _ c.loop-i-test.true c.in_err-k.ensures.answer ∙ c.loop-i.invariant.0)

pub loop-i-preserved : goal.loop-i-preserved
loop-i-preserved c =
    let ss = c.args.self.now.securities.now in
    let ts = c.args.trades.now in
    let found = c.in_ok-k.ensures in (
      each_on (trade_checks ss) ts c.loop-i.i no_trade (unwrap_or (place ss (get_or ts c.loop-i.i no_trade).isin.bytes) 0) c.in_ok-k.k c.loop-i-test.true found.answer ∙ c.loop-i.invariant.0,
      held_more ss ts c.loop-i.positions c.loop-i.i c.in_ok-k.k _ c.with.result c.loop-i-test.true found.bound (omega arith) c.with.ensures
          c.args.self.now.distinct found.found c.loop-i.invariant.1,
      few_turn ss ts c.loop-i.positions c.loop-i.i c.in_ok-k.k _ c.with.result c.loop-i-test.true found.bound (omega arith) c.with.ensures
          (deal _ found.dealt) c.loop-i.invariant.2,
    )

pub returns-clause-positions : goal.returns-clause-positions
returns-clause-positions c =
    let ss = c.args.self.now.securities.now in
    let ts = c.args.trades.now in
    whole_list (length c.args.positions.now) ss ts c.loop-i.positions (omega arith) (omega arith) (rw (take_all c.loop-i.i ts c.loop-i-test.false) at c.loop-i.invariant.1)
