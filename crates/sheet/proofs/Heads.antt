-- The head of a sheet, line by line.
use Rattle.std.proofs.Common.{◌≡◌, ℕ, ◌+◌, ◌<◌, true, false, cond, Bool, leb, List, [], ◌∷◌, ◌++◌, length, Some, Ok, Err, Result, sym, refl, ap, ◌∙◌}
use Rattle.std.proofs.lemmas.Bool.{cond-false}
use Rattle.houses.specs.declared.openings.Opening.{Opening}
use Rattle.sheet.specs.declared.faults.Fault.{Fault}
use Rattle.sheet.specs.declared.faults.Fault.TheVariants.{TooMany}
use Rattle.sheet.specs.Lines.{Item, Account, Listed, Traded, Asked, BadAccount, Bad, first, rest, items}
use Rattle.sheet.specs.Days.{head}
use Rattle.sheet.specs.Desks.{in_head}
use Rattle.sheet.proofs.Items.{items_step}

module _ (is : List Item) (n : ℕ) (os : List Opening) where
  -- a line that was found to be an account
  pub head_account : (i : Item) (a : Opening) → Ok (Some a) ≡ in_head i → head (i ∷ is) n os ≡ head (Account a ∷ is) n os
  head_account (Account b) a e = let same : a ≡ b = cc in ap (λ x. head (Account x ∷ is) n os) (sym same)
  head_account (Listed s) a e = cc
  head_account (Traded code t) a e = cc
  head_account (Asked q) a e = cc
  head_account BadAccount a e = cc
  head_account Bad a e = cc

-- one account more, behind those that are in the list already
pub head_more : (s t : List ℕ) (n : ℕ) (os more : List Opening) (i : Item) (a : Opening) → 0 < length s → i ≡ first s → t ≡ rest s → Ok (Some a) ≡ in_head i →
    ◌≡◌ {A = Result (Unit {0}) Fault} (Ok tt) (cond (leb 128 (length os)) (Err TooMany) (Ok tt)) → more ≡ cond (leb 128 (length os)) os (os ++ a ∷ []) →
    head (items t) (n + 1) more ≡ head (items s) n os
head_more s t n os more i a some said left is room all =
    by (leb 128 (length os)) refl room
  where
    by : (b : Bool) → leb 128 (length os) ≡ b → ◌≡◌ {A = Result (Unit {0}) Fault} (Ok tt) (cond b (Err TooMany) (Ok tt)) → head (items t) (n + 1) more ≡ head (items s) n os
    by true e h = cc
    by false e h =
        let step : head (items s) n os ≡ head (i ∷ items t) n os = ap (λ l. head l n os) (items_step s some) ∙ ap (λ l. head (first s ∷ items l) n os) (sym left) ∙ ap (λ x. head (x ∷ items t) n os) (sym said) in
        let new : more ≡ os ++ a ∷ [] = all ∙ cond-false _ _ _ e in
        ap (head (items t) (n + 1)) new ∙ sym (step ∙ head_account (items t) n os i a is ∙ cond-false _ _ _ e)
