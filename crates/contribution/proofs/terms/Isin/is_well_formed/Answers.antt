use Rattle.std.proofs.Common.{rules, ◌∙◌}
use Rattle.std.proofs.lemmas.Iterator.{YieldsList-from_slice}
use Rattle.std.proofs.lemmas.Iterator.Consumers.{YieldsList-from_enumerate}
use Rattle.std.proofs.lemmas.Iterator.Search.{all_from_yields_List}
use Rattle.contribution.specs.Isins.{stands}
use Rattle.contribution.proofs.Walks.{each_stands}
use Rattle.contribution.proofs.terms.Isin.is_well_formed.Goals as goal

pub returns : goal.returns
returns c =
    all_from_yields_List (λ p. stands p.0 p.1) _ _ c.all.result c.all.ensures.ran (YieldsList-from_enumerate (YieldsList-from_slice c.args.self.now.bytes (cc)) (cc)) (λ x b q k. search rules)
    ∙ each_stands 0 c.args.self.now.bytes
