use Rattle.std.proofs.Common.{ap, ◌∙◌, rules}
use Rattle.houses.specs.Lists.{first_told}
use Rattle.houses.proofs.Lists.{first_from_run}
use Rattle.houses.proofs.telling.first_told.Goals as goal

pub returns : goal.returns
returns g c =
    let r = c.find_map.ensures.runs in
    first_from_run g.T.Tells.tells c.args.account r.0 _ (c.iter.ensures.runs r.0 r.0.seen) _ _ (λ x r q k. search rules) c.find_map.result r.2
    ∙ ap (λ xs. first_told g.T.Tells.tells xs c.args.account) (ap (λ s. s.rest.now) r.1 ∙ c.iter.ensures.rest)
