use Rattle.std.proofs.Common.{ap, ◌∙◌, arith}
use Rattle.std.proofs.lemmas.List.{take_all}
use Rattle.std.proofs.lemmas.List.Sums.{get_or-le-sum_by}
use Rattle.book.specs.Rows.{nobody}
use Rattle.book.specs.Groups.{in_group, charged_in, charged_all}
use Rattle.book.proofs.Parts.{as_it_was, one_part_more}
use Rattle.book.proofs.charging.charge.Goals as goal

pub charge_row-requires : goal.charge_row-requires
charge_row-requires c =
    let same = as_it_was (charged_in c.args.group) c.args.rows.now c.loop-i.rows c.args.parts.now c.loop-i.i c.loop-i.invariant nobody in
    record {
      within = omega (arith, ap (in_group c.args.group) same, c.requires.within c.loop-i.i (omega (arith, c.requires.long)));
      limit = omega (arith, ap (λ r. r.charged) same, c.requires.limit, get_or-le-sum_by (λ r. r.charged) c.args.rows.now c.loop-i.i nobody (omega (arith, c.requires.long)), get_or-le-sum_by (λ n. n) c.args.parts.now c.loop-i.i 0 c.loop-i-test.true);
    }

pub loop-i-preserved : goal.loop-i-preserved
loop-i-preserved c = one_part_more (charged_in c.args.group) c.args.rows.now c.loop-i.rows c.args.parts.now c.loop-i.i c.loop-i.invariant nobody c.charge_row.new.row (omega (arith, c.requires.long)) c.loop-i-test.true c.charge_row.ensures

pub returns : goal.returns
returns c = c.loop-i.invariant ∙ ap (charged_all c.args.group c.args.rows.now) (take_all c.loop-i.i c.args.parts.now c.loop-i-test.false)
