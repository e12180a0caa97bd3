-- One trade more in the position of its security, and in no other.
use Rattle.std.proofs.Common.{◌≡◌, ℕ, ◌+◌, ◌-◌, ◌*◌, ◌^◌, ◌<◌, ◌≤◌, Bool, true, false, ◌≢◌, List, map, length, get_or, take, set, Some, sym, ap, ◌∙◌, inl, inr, add-zero, arith, get_or-set_other, get_or-set_same}
use Rattle.std.specs.Str.{bytes_eq}
use lib.ListN.{length-replicate}
use Rattle.std.proofs.lemmas.List.{get_or_default, same_lists, get_or_append_left, get_or-append_right, get_or-map, get_or-replicate, length-map, length-append}
use Rattle.std.proofs.lemmas.Slice.Eq.{bytes_eq-Decides}
use Rattle.std.proofs.lemmas.Iterator.Adapters.{position_from-zero}
use Rattle.std.proofs.lemmas.List.Quantifiers.{position-Some}
use Rattle.std.proofs.lemmas.List.Sums.{sum_by_more}
use Rattle.std.proofs.lemmas.Bool.{cases_order, cases_Bool, cases_eq, cases_lt, both_ways}
use Rattle.contribution.specs.declared.terms.Security.{Security}
use Rattle.contribution.specs.declared.terms.Side.{Side}
use Rattle.contribution.specs.declared.terms.Side.TheVariants.{Bought, Sold}
use Rattle.contribution.specs.declared.terms.Trade.{Trade}
use Rattle.contribution.specs.declared.positions.Position.{Position}
use Rattle.contribution.specs.Isins.{place}
use Rattle.contribution.specs.Steps.{in_security, by_side, bought, sold, paid, received}
use Rattle.contribution.specs.Positions.{flat, position, added, Few, Distinct}
use Rattle.contribution.specs.Contribution.{positions}
use Rattle.contribution.proofs.Bounds.{Deal}
use Rattle.contribution.proofs.Walks.{no_security}

-- the positions in the securities, in their order, and none past them
pub record Held (ss : List Security) (ts : List Trade) (ps : List Position) : Type 0 where
  pub held : (k : ℕ) (d : Security) → k < length ss → get_or ps k flat ≡ position (get_or ss k d) ts
  pub past : (k : ℕ) → length ss ≤ k → get_or ps k flat ≡ flat

pub placed_in : (ss : List Security) (t : Trade) (k : ℕ) (d : Security) → place ss t.isin.bytes ≡ Some k → in_security (get_or ss k d) t ≡ true
placed_in ss t k d e = let test : Security → Bool = λ s. in_security s t in (position-Some test ss k d (position_from-zero test ss ∙ e)).1

-- of distinct securities a trade is in one only
pub elsewhere : (ss : List Security) (t : Trade) (j k : ℕ) (d : Security) → Distinct ss → j < length ss → k < length ss → j ≢ k →
    in_security (get_or ss k d) t ≡ true → in_security (get_or ss j d) t ≡ false
elsewhere ss t j k d apart hj hk ne here =
    elim (cases_Bool (in_security (get_or ss j d) t)) [
      | inr no_trade ↦ no_trade
      | inl there ↦ (
          let a : (get_or ss j d).isin.bytes ≡ t.isin.bytes = (bytes_eq-Decides _ _).0 there in
          let b : (get_or ss k d).isin.bytes ≡ t.isin.bytes = (bytes_eq-Decides _ _).0 here in
          let both : bytes_eq (get_or ss j d).isin.bytes (get_or ss k d).isin.bytes ≡ true = (bytes_eq-Decides _ _).1 (a ∙ sym b) in
          let back : bytes_eq (get_or ss k d).isin.bytes (get_or ss j d).isin.bytes ≡ true = (bytes_eq-Decides _ _).1 (b ∙ sym a) in
          elim (cases_order j k) [
            | inl e ↦ absurd (ne e)
            | inr o ↦ (elim o [ inl l ↦ absurd (both_ways _ (apart j k d l hk) both) | inr l ↦ absurd (both_ways _ (apart k j d l hj) back) ])
          ])
    ]

module _ (s : Security) (ts : List Trade) (i : ℕ) (t : Trade) (h : i < length ts) where
  -- a trade in the security counts
  pub counted : in_security s (get_or ts i t) ≡ true → position s (take (i + 1) ts) ≡ added (position s (take i ts)) (get_or ts i t)
  counted e = rw (sum_by_more (bought s) ts i t h, sum_by_more (sold s) ts i t h, sum_by_more (paid s) ts i t h, sum_by_more (received s) ts i t h) (simp e)

  -- a trade in another does not
  pub unmoved : in_security s (get_or ts i t) ≡ false → position s (take (i + 1) ts) ≡ position s (take i ts)
  unmoved e = rw (sum_by_more (bought s) ts i t h, sum_by_more (sold s) ts i t h, sum_by_more (paid s) ts i t h, sum_by_more (received s) ts i t h) (simp (e, add-zero))

either_side : (side : Side) (a b m : ℕ) → a ≤ m → b ≤ m → by_side side a b ≤ m
either_side Bought a b m ha hb = ha
either_side Sold a b m ha hb = hb

pub few_more : (n : ℕ) (p : Position) (t : Trade) → Few n p → Deal t → Few (n + 1) (added p t)
few_more n p t few deal =
    record {
      bought = omega (arith, either_side t.side t.quantity 0 1000000 deal.quantity (omega arith));
      sold = omega (arith, either_side t.side 0 t.quantity 1000000 (omega arith) deal.quantity);
      paid = omega (arith, either_side t.side (t.quantity * t.price) 0 (10 ^ 14) deal.money (omega arith));
      received = omega (arith, either_side t.side 0 (t.quantity * t.price) (10 ^ 14) (omega arith) deal.money);
    }

pub few_wider : (m n : ℕ) (p : Position) → m ≤ n → Few m p → Few n p
few_wider m n p h few = record { bought = omega arith; sold = omega arith; paid = omega arith; received = omega arith }

-- the turn of a walk over the trades at i: k is where the trade's security stands, p its new position
module _ (ss : List Security) (ts : List Trade) (ps : List Position) (i k : ℕ) (t : Trade) (p : Position)
    (hi : i < length ts) (hk : k < length ss) (hp : length ss ≤ length ps) (new : p ≡ added (get_or ps k flat) (get_or ts i t)) where
  pub held_more : Distinct ss → place ss (get_or ts i t).isin.bytes ≡ Some k → Held ss (take i ts) ps → Held ss (take (i + 1) ts) (set ps k p)
  held_more apart at h =
      record {
        held = λ j d l.
            (let here = placed_in ss (get_or ts i t) k d at in
            elim (cases_eq j k) [
              | inl e ↦ rw e (get_or-set_same ps k p flat (omega arith) ∙ new ∙ ap (λ q. added q (get_or ts i t)) (h.held k d hk) ∙ sym (counted (get_or ss k d) ts i t hi here))
              | inr ne ↦ get_or-set_other ps k j p flat ne ∙ h.held j d l ∙ sym (unmoved (get_or ss j d) ts i t hi (elsewhere ss (get_or ts i t) j k d apart l hk ne here))
            ]);
        past = λ j l. (let ne : j ≢ k = omega arith in get_or-set_other ps k j p flat ne ∙ h.past j l);
      }

  pub few_turn : Deal (get_or ts i t) → ((j : ℕ) → j < length ss → Few i (get_or ps j flat)) → (j : ℕ) → j < length ss → Few (i + 1) (get_or (set ps k p) j flat)
  few_turn deal few j l =
      elim (cases_eq j k) [
        | inl e ↦ rw (e, get_or-set_same ps k p flat (omega arith), new) (few_more i (get_or ps k flat) (get_or ts i t) (few k hk) deal)
        | inr ne ↦ rw (get_or-set_other ps k j p flat ne) (few_wider i (i + 1) (get_or ps j flat) (omega arith) (few j l))
      ]

-- the list of positions, read as a whole
pub whole_list : (n : ℕ) (ss : List Security) (ts : List Trade) (ps : List Position) → length ps ≡ n → length ss ≤ n → Held ss ts ps → ps ≡ positions n ss ts
whole_list n ss ts ps l h held =
    same_lists ps (positions n ss ts) (l ∙ sym long) (λ k d m. elim (cases_lt k (length ss)) [
      | inl i ↦ get_or_default ps k d flat m ∙ held.held k no_security i ∙ sym (get_or_append_left (map (λ s. position s ts) ss) _ d k (rw length-map i) ∙ get_or-map (λ s. position s ts) ss k no_security d i)
      | inr i ↦ get_or_default ps k d flat m ∙ held.past k i ∙ sym (get_or-append_right (map (λ s. position s ts) ss) _ (length ss) k d (length-map ss _) i ∙ get_or-replicate (n - length ss) (k - length ss) flat d (omega arith))
    ]) where
      long : length (positions n ss ts) ≡ n
      long = simp (length-append, length-map, length-replicate) (omega arith)
