use Rattle.std.proofs.Common.{◌≡◌, ℕ, ◌+◌, ◌<◌, ◌≤◌, ◌≢◌, List, map, length, get_or, take, sum, sym, ap, ◌∙◌, arith, get_or-set_other, get_or-set_same, below_more}
use Rattle.std.proofs.lemmas.List.{length-map, get_or-map}
use Rattle.std.proofs.lemmas.List.FromFn.{fill_by_all}
use Rattle.std.proofs.lemmas.List.Sums.{sum_by_more, sum_by-take-le}
use Rattle.division.specs.Division.{part}
use Rattle.division.proofs.dividing.fill.Given as given
use Rattle.division.proofs.dividing.fill.Goals as goal
use Rattle.division.proofs.dividing.fill.Goals.{After-weight}

abbrev ws : (g : given.Over) (c : After-weight g) → List ℕ
ws g c = map g.T.Weighted.weight c.args.things.now

-- the weights up to and with the thing's own
with_own : (g : given.Over) (c : After-weight g) → c.loop-i.weights + c.weight.result ≡ sum (take (c.loop-i.i + 1) (ws g c))
with_own g c =
    let weight = g.T.Weighted.weight in
    let own : get_or (ws g c) c.loop-i.i 0 ≡ c.weight.result = get_or-map weight c.args.things.now c.loop-i.i c.index-things-i.result 0 c.loop-i-test.true ∙ sym (c.weight.ensures ∙ ap weight c.index-things-i.is) in
    let next = sum_by_more (λ n. n) (ws g c) c.loop-i.i 0 (simp length-map c.loop-i-test.true) in
    omega (arith, c.loop-i.invariant.0)

limited : (g : given.Over) (c : After-weight g) → c.loop-i.weights + c.weight.result ≤ 4000000000
limited g c = omega (arith, with_own g c, sum_by-take-le (λ n. n) (ws g c) (c.loop-i.i + 1))

pub overflow_add-reached : goal.overflow_add-reached
overflow_add-reached g c = omega (arith, limited g c)

pub due-requires-clause-weights : goal.due-requires-clause-weights
due-requires-clause-weights g c = omega (arith, limited g c)

pub loop-i-preserved : goal.loop-i-preserved
loop-i-preserved g c =
    let e = with_own g (goal.at.loop-i-preserved g c).After-weight in
    let p : c.loop-i.paid ≤ c.due.result = grind arith in (
      e,
      omega (arith, c.due.ensures),
      below_more _ _
          (λ k h. let ne : k ≢ c.loop-i.i = omega arith in rw get_or-set_other (c.loop-i.invariant.2 k h))
          (let lt : c.loop-i.i < length c.loop-i.parts = omega arith in
          rw get_or-set_same (cc (e, c.due.ensures, c.requires.all, c.loop-i.invariant.0, c.loop-i.invariant.1))),
    )

pub returns : goal.returns
returns g c =
    let n = length-map c.args.things.now g.T.Weighted.weight in
    fill_by_all (part c.args.amount (map g.T.Weighted.weight c.args.things.now)) c.loop-i.parts _ 0
    (omega arith) (λ k h. c.loop-i.invariant.2 k (omega arith))
