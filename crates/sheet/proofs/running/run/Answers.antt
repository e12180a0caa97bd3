use Rattle.std.proofs.Common.{◌≡◌, ℕ, List, [], ◌++◌, Some, Ok, Err, IfOk, string_bytes, Result, sym, refl, ap, ◌∙◌, subst}
use Rattle.std.specs.Option.{option_map}
use Rattle.std.specs.Result.{result_ok}
use Rattle.sheet.specs.Days.{run}
use Rattle.sheet.specs.Files.{Faithful}
use Rattle.sheet.proofs.Filed.{faithful}
use Rattle.sheet.proofs.running.run.Goals as goal

-- what holds of the one text that it can be
of_text : {T E : Type 0} (r : Result T E) (bytes : T → List ℕ) (s : List ℕ) (P : List ℕ → Type 0) → P s → ((t : List ℕ) → option_map bytes (result_ok r) ≡ Some t → t ≡ s) → IfOk r (λ x. P (bytes x))
of_text (Ok x) bytes s P h only = subst P (sym (only (bytes x) refl)) h
of_text (Err e) bytes s P h only = tt

pub returns : goal.returns
returns c =
    let s = c.args.sheet.now in
    let text = c.run_sheet.new.out.text in
    let only : (t : List ℕ) → option_map string_bytes (result_ok text) ≡ Some t → t ≡ run s = λ t is.
    (let w = c.run_sheet.ensures t is in
    let none : w.0 ≡ [] = (let e = w.1 in let b = c.new-2.ensures.bytes in cc) in
    w.2 ∙ ap (λ l. l ++ run s) none) in
    record {
      printed = of_text text string_bytes (run s) (λ l. l ≡ run s) refl only;
      faithful = of_text text string_bytes (run s) (Faithful s) (faithful s) only;
    }
