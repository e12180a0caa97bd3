use Rattle.std.proofs.Common.{ap, arith, rules}
use Rattle.std.proofs.lemmas.Iterator.{YieldsList-from_slice}
use Rattle.std.proofs.lemmas.Iterator.Adapters.{serves_from_places}
use Rattle.std.proofs.lemmas.List.Sums.{get_or-le-sum_by}
use Rattle.book.specs.Rows.{share}
use Rattle.book.proofs.table.sum.Goals as goal

pub sum-requires-clause-can : goal.sum-requires-clause-can
sum-requires-clause-can c =
    (tt, serves_from_places (YieldsList-from_slice c.args.rows.now cc) (λ x q e. search rules) (λ x k h e. (let n = ap share e in omega (arith, get_or-le-sum_by share c.args.rows.now k x.now h))))
