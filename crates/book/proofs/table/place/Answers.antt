use Rattle.std.proofs.Common.{◌≡◌, eqb, ◌∙◌, rules}
use Rattle.std.proofs.lemmas.Iterator.{YieldsList-from_slice}
use Rattle.std.proofs.lemmas.Iterator.Search.{position_from_yields_List}
use Rattle.std.proofs.lemmas.Iterator.Adapters.{position_from-zero}
use Rattle.book.specs.declared.rows.Row.{Row}
use Rattle.book.specs.Rows.{place}
use Rattle.book.proofs.Places.{placed}
use Rattle.book.proofs.table.place.Goals as goal

pub returns : goal.returns
returns c =
    let test = λ (r : Row). eqb r.code c.args.code in
    let e : c.position.result ≡ place c.args.rows.now c.args.code =
    position_from_yields_List test _ _ _ c.position.ensures.ran (YieldsList-from_slice c.args.rows.now cc) (λ x b q k. search rules) ∙ position_from-zero test c.args.rows.now in
    record { place = e; stands = placed c.args.rows.now c.args.code c.position.result e }
