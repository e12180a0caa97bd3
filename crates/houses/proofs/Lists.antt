-- What a list tells of an account: what a search through it finds, and what a list of the accounts that are handed in tells.
use Rattle.std.proofs.Common.{◌≡◌, ℕ, zero, suc, ◌+◌, ◌<◌, false, List, [], ◌∷◌, map, length, get_or, is_some, Some, None, Option, IsSomeAnd, IfSome, MatchOption, IsTrue, sym, refl, ap, ◌∙◌, arith}
use Rattle.std.proofs.lemmas.Bool.{both_ways}
use Rattle.std.specs.Fn.{Called}
use Rattle.std.specs.Option.{option_map, option_or}
use Rattle.std.specs.Iterator.Runs.{Run, AllItemsGive, IsFirstToGive, ItemsMapTo}
use Rattle.std.specs.List.{HoldsAt}
use denote.Param.Members.{Mut}
use denote.Ref.{Bor}
use mathlib.Core.Path.{fun_ext}
use Rattle.houses.specs.declared.openings.Opening.{Opening}
use Rattle.houses.specs.Openings.{handed_in, opened}
use Rattle.houses.specs.Lists.{first_told}

module _ {X : Type 0} (tells : X → ℕ → Option ℕ) (k : ℕ) where
  none_told : (xs : List X) → ((j : ℕ) (d : X) → j < length xs → tells (get_or xs j d) k ≡ None) → first_told tells xs k ≡ None
  none_told [] n = refl
  none_told (x ∷ xs) n = simp (n 0 x (omega arith)) (none_told xs (λ j d l. n (suc j) d (omega arith)))

  first_told_at : (xs : List X) (i y : ℕ) → i < length xs → ((d : X) → tells (get_or xs i d) k ≡ Some y) → ((j : ℕ) (d : X) → j < i → tells (get_or xs j d) k ≡ None) → first_told tells xs k ≡ Some y
  first_told_at [] i y l e n = absurd (omega arith)
  first_told_at (x ∷ xs) zero y l e n = simp (e x)
  first_told_at (x ∷ xs) (suc i) y l e n = simp (n 0 x (omega arith)) (first_told_at xs i y (omega arith) e (λ j d m. n (suc j) d (omega arith)))

  module _ {S F : Type 0} {steps : S → Option (Bor X) → S → Type 0} (p : Run steps) (xs : List X) (came : ItemsMapTo p (λ x. x.now) xs)
      (g : Mut F (Bor X × Unit {0}) (Option ℕ)) (f : F) (says : (x : Bor X) (r : Option ℕ) (q : F) → Called g f (x, tt) r q → (q ≡ f) × (r ≡ tells x.now k)) where
    told_at : (j : ℕ) (d : X) (r : Option ℕ) → IsSomeAnd (p.at j) (λ x. Called g f (x, tt) r f) → tells (get_or xs j d) k ≡ r
    told_at j d r s = go (p.at j) (came.3 j) s
      where
        go : (o : Option (Bor X)) → IfSome o (λ x. HoldsAt (λ y. x.now ≡ y) xs j) → IsSomeAnd o (λ x. Called g f (x, tt) r f) → tells (get_or xs j d) k ≡ r
        go None h s = absurd s
        go (Some x) h s = ap (λ y. tells y k) (sym (h d)) ∙ sym (says x r f s).1

    given : (j : ℕ) (P : Bor X → Type 0) → j < p.len → IfSome (p.at j) P → IsSomeAnd (p.at j) P
    given j P l h = there p.items p.long
      where
        go : (o : Option (Bor X)) (x : Bor X) → option_map (λ y. y) o ≡ Some x → IfSome o P → IsSomeAnd o P
        go None x e h = absurd (both_ways false refl (ap is_some e))
        go (Some y) x e h = h

        there : (ys : List (Bor X)) → p.len ≡ length ys → IsSomeAnd (p.at j) P
        there [] e = absurd (omega (arith, l, e))
        there (y ∷ ys) e = go (p.at j) _ (p.reads j y l) h

    pub first_from_run : (r : Option ℕ) → MatchOption r (IsTrue p.whole × AllItemsGive p g f None) (λ y. (i : ℕ) × (i < p.len) × (p.len ≡ i + 1) × IsFirstToGive p g f (Some y) None i) → r ≡ first_told tells xs k
    first_from_run None e =
        let keeps = λ (x : Bor X × Unit {0}) (r : Option ℕ) (q : F) (c : Called g f x r q). (says x.0 r q c).0 in
        let all = came.1 e.0 in
        sym (none_told xs (λ j d l. told_at j d None (given j _ (omega arith) (e.1 keeps j))))
    first_from_run (Some y) e =
        let keeps = λ (x : Bor X × Unit {0}) (r : Option ℕ) (q : F) (c : Called g f x r q). (says x.0 r q c).0 in
        let t = e.3 keeps in let short = came.0 in
        sym (first_told_at xs e.0 y (omega arith) (λ d. told_at e.0 d (Some y) t.0) (λ j d l. told_at j d None (t.1 j l)))

-- what is kept of the accounts that are handed in, if each is kept with its balance
pub told_of : {X : Type 0} (tells : X → ℕ → Option ℕ) (kept_of : Opening → X) → ((o : Opening) (k : ℕ) → tells (kept_of o) k ≡ handed_in o k) → (os : List Opening) → first_told tells (map kept_of os) ≡ opened os
told_of tells kept_of same os = fun_ext (λ k. go os k)
  where
    go : (os : List Opening) (k : ℕ) → first_told tells (map kept_of os) k ≡ opened os k
    go [] k = refl
    go (o ∷ os) k = ap (λ b. option_or b (first_told tells (map kept_of os) k)) (same o k) ∙ ap (option_or (handed_in o k)) (go os k)
