use Rattle.std.proofs.Common.{◌≡◌, ◌-◌, ◌≤◌, length, take, vec_items, vec_len, sym, ap, ◌∙◌, arith}
use Rattle.std.proofs.lemmas.List.{length-map, length-take}
use Rattle.division.specs.Refusals.{refusal}
use Rattle.book.specs.Groups.{weight, weights}
use Rattle.book.proofs.Credits.{divides, made}
use Rattle.book.proofs.Levies.{weights_within}
use Rattle.book.proofs.table.Table.parts.Goals as goal

pub unwrap-requires : goal.unwrap-requires
unwrap-requires c =
    let rows = vec_items c.args.self.now.rows in
    let ws = weights c.args.basis rows in
    let most = weights_within c.args.basis rows 4000000000 c.args.self.now.limit c.args.self.now.charged in
    let n : length ws ≡ vec_len c.args.self.now.rows = length-map rows (weight c.args.basis) ∙ sym c.args.self.now.rows.ok.0 in
    let k : c.len-count.result - 0 ≡ length rows = omega (arith, c.args.self.now.rows.ok.0, c.len-count.ensures) in
    let e : take (c.len-count.result - 0) c.weigh.new.list ≡ ws = ap (λ j. take j c.weigh.new.list) k ∙ rw c.as_slice.ensures.value at c.weigh.ensures in
    let few : length ws ≤ 64 = omega (arith, n, c.args.self.now.few) in
    made refusal c.divide.result tt (c.divide.ensures.verdict ∙ divides c.args.amount _ _ ws c.weigh.new.list e few (simp length-take (omega (arith, n, few, c.len-count.ensures))) most c.requires.amount c.requires.some)
