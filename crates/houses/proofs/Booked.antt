-- What is read off the entries of a list house.
use Rattle.std.proofs.Common.{◌≡◌, ℕ, ◌+◌, ◌-◌, ◌≤◌, Bool, true, false, cond, eqb, List, [], ◌∷◌, ◌++◌, map, is_some, Some, None, fold, sum_by, Option, sym, refl, ap, ◌∙◌, inl, inr, add-zero, arith}
use mathlib.Core.Path.{fun_ext}
use Rattle.std.specs.Option.{option_map, option_or}
use Rattle.std.proofs.lemmas.Bool.{cases_Bool, eqb-true, ne_eqb, both_ways}
use Rattle.std.proofs.lemmas.List.Sums.{sum_by_push, sum_by-cons, fold_push}
use Rattle.houses.specs.declared.openings.Opening.{Opening as Told}
use Rattle.houses.specs.declared.entries.Entry.{Entry}
use Rattle.houses.specs.declared.entries.Entry.TheVariants.{Transfer}
use Rattle.houses.specs.Balances.{held, moved}
use Rattle.houses.specs.Openings.{opened}
use Rattle.houses.specs.Entries.{entry_of, opens, opening, brings, takes, Covered, booked, with_entry, carried}
use Rattle.houses.proofs.Moved.{Makable}
use Rattle.houses.proofs.Lists.{told_of}

-- an opening balance with money in and money out
abbrev net : Option ℕ → ℕ → ℕ → Option ℕ
net o i u = option_map (λ n. n + i - u) o

net_payer : (o : Option ℕ) (i u a : ℕ) → is_some (net o i u) ≡ true → net o i (u + a) ≡ Some (held (net o i u) - a)
net_payer None i u a h = absurd (both_ways false refl h)
net_payer (Some n) i u a h = ap Some (omega arith)

net_receiver : (o : Option ℕ) (i u a : ℕ) → is_some (net o i u) ≡ true → u ≤ held o + i → net o (i + a) u ≡ Some (held (net o i u) + a)
net_receiver None i u a h l = absurd (both_ways false refl h)
net_receiver (Some n) i u a h l = ap Some (omega arith)

net_is : (o : Option ℕ) (i u : ℕ) → held (net o i u) ≤ held o + i - u
net_is None i u = omega arith
net_is (Some n) i u = omega arith

-- one more transfer at the end of the list
module _ (f t a : ℕ) where
  opening_push : (es : List Entry) → opening (es ++ Transfer f t a ∷ []) ≡ opening es
  opening_push es = fun_ext (λ k. go es k)
    where
      go : (es : List Entry) (k : ℕ) → opening (es ++ Transfer f t a ∷ []) k ≡ opening es k
      go [] k = refl
      go (e ∷ es) k = ap (option_or (opens e k)) (go es k)

  module _ (ready : Bool) (es : List Entry) (covered : Covered es) (m : Makable ready (booked es) f t a) where
    in_now : (k : ℕ) → sum_by (brings k) (es ++ Transfer f t a ∷ []) ≡ sum_by (brings k) es + cond (eqb k t) a 0
    in_now k = sum_by_push (brings k) es (Transfer f t a)

    out_now : (k : ℕ) → sum_by (takes k) (es ++ Transfer f t a ∷ []) ≡ sum_by (takes k) es + cond (eqb k f) a 0
    out_now k = sum_by_push (takes k) es (Transfer f t a)

    booked_now : (k : ℕ) → booked (es ++ Transfer f t a ∷ []) k ≡ net (opening es k) (sum_by (brings k) es + cond (eqb k t) a 0) (sum_by (takes k) es + cond (eqb k f) a 0)
    booked_now k = rw (ap (λ b. b k) (opening_push es), in_now k, out_now k)

    pub booked_push : booked (es ++ Transfer f t a ∷ []) ≡ moved (booked es) f t a
    booked_push = fun_ext (λ k. booked_now k ∙ elim (cases_Bool (eqb k f)) [
      | inl u ↦ (let i : k ≡ f = eqb-true k f u in let w : eqb k t ≡ false = ne_eqb k t (λ e. m.apart (sym i ∙ e)) in
          let there : is_some (booked es k) ≡ true = ap (λ j. is_some (booked es j)) i ∙ m.payer in
          simp (u, w, add-zero) (net_payer (opening es k) (sum_by (brings k) es) (sum_by (takes k) es) a there ∙ ap (λ j. Some (held (booked es j) - a)) i))
      | inr u ↦ elim (cases_Bool (eqb k t)) [
        | inl w ↦ (let i : k ≡ t = eqb-true k t w in
            let there : is_some (booked es k) ≡ true = ap (λ j. is_some (booked es j)) i ∙ m.receiver in
            simp (u, w, add-zero) (net_receiver (opening es k) (sum_by (brings k) es) (sum_by (takes k) es) a there (covered k) ∙ ap (λ j. Some (held (booked es j) + a)) i))
        | inr w ↦ simp (u, w, add-zero)
      ]
    ])

    pub covered_push : Covered (es ++ Transfer f t a ∷ [])
    covered_push k =
        let got = in_now k in let gave = out_now k in let before = covered k in
        let opens : held (opening (es ++ Transfer f t a ∷ []) k) ≡ held (opening es k) = ap (λ b. held (b k)) (opening_push es) in
        elim (cases_Bool (eqb k f)) [
          | inl u ↦ (let i = eqb-true k f u in let paid : a ≤ held (booked es k) = (let e = ap (λ j. held (booked es j)) i in omega (arith, m.enough)) in
              let under = net_is (opening es k) (sum_by (brings k) es) (sum_by (takes k) es) in
              let gave2 = simp u at gave in omega arith)
          | inr u ↦ (let gave2 = simp (u, add-zero) at gave in omega arith)
        ]

    pub in_order_push : booked es ≡ carried es → booked (es ++ Transfer f t a ∷ []) ≡ carried (es ++ Transfer f t a ∷ [])
    in_order_push same =
        booked_push ∙ ap (λ b. moved b f t a) same
        ∙ sym (fold_push with_entry (opening (es ++ Transfer f t a ∷ [])) es (Transfer f t a) ∙ ap (λ b. moved (fold with_entry b es) f t a) (opening_push es))

-- entries that are openings, as a list house begins
idle : (g : Entry → ℕ) → ((o : Told) → g (entry_of o) ≡ 0) → (os : List Told) → sum_by g (map entry_of os) ≡ 0
idle g e [] = refl
idle g e (o ∷ os) = sum_by-cons g (entry_of o) (map entry_of os) ∙ (let h = idle g e os in let h2 = e o in omega arith)

opening_opened : (os : List Told) → opening (map entry_of os) ≡ opened os
opening_opened = told_of opens entry_of (λ o k. refl)

net_idle : (o : Option ℕ) → net o 0 0 ≡ o
net_idle None = refl
net_idle (Some n) = ap Some (omega arith)

pub booked_opened : (os : List Told) → booked (map entry_of os) ≡ opened os
booked_opened os = fun_ext (λ k. rw (idle (brings k) (λ o. refl) os, idle (takes k) (λ o. refl) os, ap (λ b. b k) (opening_opened os)) (net_idle (opened os k)))

pub covered_opened : (os : List Told) → Covered (map entry_of os)
covered_opened os k = let e = idle (takes k) (λ o. refl) os in omega arith

pub in_order_opened : (os : List Told) → booked (map entry_of os) ≡ carried (map entry_of os)
in_order_opened os = booked_opened os ∙ sym (go (opening (map entry_of os)) os ∙ opening_opened os)
  where
    go : (b : ℕ → Option ℕ) (os : List Told) → fold with_entry b (map entry_of os) ≡ b
    go b [] = refl
    go b (o ∷ os) = go b os
