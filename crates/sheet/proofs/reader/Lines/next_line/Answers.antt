use Rattle.std.proofs.Common.{◌∙◌, rules}
use Rattle.sheet.proofs.Items.{finished}
use Rattle.sheet.proofs.reader.Lines.next_line.Goals as goal

pub returns : goal.returns
returns c =
    let went = finished c.args.self.now.rest.now _ _ _ c.length_before.ensures.value c.split_at.ensures.front c.split_at.ensures.back _ _ c.in-Some.ensures.cases.0 in
    (search rules, c.parse.ensures ∙ went.0, went.1)
