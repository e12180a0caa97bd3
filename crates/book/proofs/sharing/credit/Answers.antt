use Rattle.std.proofs.Common.{refl, ap, arith}
use Rattle.std.proofs.lemmas.List.Sums.{get_or-le-sum_by}
use Rattle.book.specs.Rows.{share, nobody, credit}
use Rattle.book.proofs.Parts.{as_it_was, one_part_more}
use Rattle.book.proofs.sharing.credit.Goals as goal

pub overflow_add-rows : goal.overflow_add-rows
overflow_add-rows c =
    let same = ap (λ r. r.reserve) (as_it_was credit c.args.rows.now c.loop-i.rows c.args.parts.now c.loop-i.i c.loop-i.invariant nobody) in
    omega (arith, c.requires, get_or-le-sum_by share c.args.rows.now c.loop-i.i nobody (omega (arith, c.requires.long)), get_or-le-sum_by (λ n. n) c.args.parts.now c.loop-i.i 0 c.loop-i-test.true)

pub loop-i-preserved : goal.loop-i-preserved
loop-i-preserved c = one_part_more credit c.args.rows.now c.loop-i.rows c.args.parts.now c.loop-i.i c.loop-i.invariant nobody _ (omega (arith, c.requires.long)) c.loop-i-test.true refl
