use Rattle.std.proofs.Common.{◌≡◌, get_or, sym, refl, inl, inr, rules}
use Rattle.std.proofs.lemmas.List.{take_more, take_all}
use Rattle.houses.specs.declared.transfers.Transfer.{Transfer}
use Rattle.houses.specs.Comparing.{seen, Asked, none, more, all_alike, apart}
use Rattle.houses.proofs.Alikes.{apart_unready, same_alike, relisted, reanswered}
use Rattle.houses.proofs.comparing.compare.Given as given
use Rattle.houses.proofs.comparing.compare.Goals as goal
use Rattle.houses.proofs.comparing.compare.Goals.{After-transfer-there}

abbrev nothing : Transfer
nothing = record { from = 0; to = 0; amount = 0 }

abbrev next : (g : given.Over) (c : After-transfer-there g) → Transfer
next g c = get_or c.args.transfers.now c.loop-i.i nothing

here : (g : given.Over) (c : After-transfer-there g) → Asked (seen g.C.House.balances g.C.House.ready c.loop-i.one) (next g c) c.transfer-here.result (seen g.C.House.balances g.C.House.ready c.transfer-here.new.self)
here g c = record { told = c.transfer-here.ensures.verdict; left = c.transfer-here.ensures.balances; still = c.transfer-here.ensures.ready }

there : (g : given.Over) (c : After-transfer-there g) → Asked (seen g.D.House.balances g.D.House.ready c.loop-i.other) (next g c) c.transfer-there.result (seen g.D.House.balances g.D.House.ready c.transfer-there.new.self)
there g c = record { told = c.transfer-there.ensures.verdict; left = c.transfer-there.ensures.balances; still = c.transfer-there.ensures.ready }

pub returns-then-ne : goal.returns-then-ne
returns-then-ne g c =
    let a = (goal.at.returns-then-ne g c).After-transfer-there in
    let front = take_more c.args.transfers.now c.loop-i.i nothing c.loop-i-test.true in
    let ne : c.transfer-here.result ≡ c.transfer-there.result → ⊥ = λ e. search rules in
    record {
      compared = apart (next g a) c.transfer-here.result c.transfer-there.result _ _ front c.loop-i.invariant (here g a) (there g a) ne;
      told = λ e. inr (next g a, front, apart_unready _ _ _ _ (next g a) c.transfer-here.result c.transfer-there.result (here g a) (there g a) ne (same_alike c.loop-i.invariant e));
    }

pub loop-i-init : goal.loop-i-init
loop-i-init g c = none

pub loop-i-preserved : goal.loop-i-preserved
loop-i-preserved g c =
    let a = (goal.at.loop-i-preserved g c).After-transfer-there in
    relisted (sym (take_more c.args.transfers.now c.loop-i.i nothing c.loop-i-test.true))
    (more (next g a) c.transfer-here.result _ _ c.loop-i.invariant (here g a) (reanswered (search rules) (there g a)))

pub returns : goal.returns
returns g c =
    let a = relisted (take_all c.loop-i.i c.args.transfers.now c.loop-i-test.false) c.loop-i.invariant in
    record { compared = all_alike refl a; told = λ e. inl (refl, same_alike a e) }
