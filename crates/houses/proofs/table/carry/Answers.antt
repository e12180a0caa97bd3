use Rattle.std.proofs.Common.{◌≡◌, ℕ, ◌+◌, ◌-◌, true, is_some, Option, sym, ap, ◌∙◌}
use Rattle.std.proofs.lemmas.Bool.{ne_eqb}
use Rattle.houses.specs.Balances.{held, rewritten}
use Rattle.houses.specs.Table.{kept}
use Rattle.houses.proofs.Moved.{Makable, passed}
use Rattle.houses.proofs.Tables.{both}
use Rattle.houses.proofs.table.carry.Goals as goal
use Rattle.houses.proofs.table.carry.Goals.{In_ok-less}

abbrev before : In_ok-less → ℕ → Option ℕ
before c = kept c.args.accounts.now

judged : (c : In_ok-less) → Makable true (before c) c.args.transfer.from c.args.transfer.to c.args.transfer.amount × ◌≡◌ {A = ℕ × ℕ} (c.in_ok-less.less, c.in_ok-less.more) (held (before c c.args.transfer.from) - c.args.transfer.amount, held (before c c.args.transfer.to) + c.args.transfer.amount)
judged c = passed true (before c) c.args.transfer.from c.args.transfer.to c.args.transfer.amount _ (c.in_ok-less.ensures (before c) (cc) (cc))

pub write-requires-2 : goal.write-requires-2
write-requires-2 c =
    let m = (judged (goal.at.write-requires-2 c).In_ok-less).0 in
    let other = ne_eqb c.args.transfer.to c.args.transfer.from (λ e. m.apart (sym e)) in
    ap (λ b. is_some (b c.args.transfer.to)) c.write.ensures ∙ simp other m.receiver

pub returns-clause-balances : goal.returns-clause-balances
returns-clause-balances c =
    let j = judged (goal.at.returns-clause-balances c).In_ok-less in
    let f = c.args.transfer.from in let t = c.args.transfer.to in
    c.write-2.ensures ∙ ap (λ b. rewritten b t c.in_ok-less.more) c.write.ensures
    ∙ ap (λ (n : ℕ × ℕ). rewritten (rewritten (kept c.args.accounts.now) f n.0) t n.1) j.1 ∙ both (kept c.args.accounts.now) f t c.args.transfer.amount j.0.apart
