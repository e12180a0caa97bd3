-- What was printed, one text after the other.
use Rattle.std.proofs.Common.{◌≡◌, ℕ, ◌+◌, ◌<◌, List, ◌++◌, length, Ok, Err, Result, sym, ap, ◌∙◌, subst, append_assoc}
use Rattle.sheet.specs.declared.entries.Output.{Output}
use Rattle.sheet.specs.declared.faults.Fault.{Fault}
use Rattle.sheet.specs.Lines.{Item, first, rest, items}
use Rattle.sheet.specs.Days.{Day, Taken, GoesOn, Stops, stopped, finish, followed, taken, body}
use Rattle.sheet.specs.Desks.{Written, Took}
use Rattle.sheet.proofs.Items.{items_none, items_step}

-- a text, and another behind it
pub written_both : (o p q : Output) (a b : List ℕ) → Written o a p → Written p b q → Written o (a ++ b) q
written_both o p q a b first second t is =
    let last = second t is in
    let before = first last.0 last.1 in
    (before.0, before.1, last.2 ∙ ap (λ l. l ++ b) before.2 ∙ append_assoc before.0 a b)

-- what is written behind the lines that are left, from line n on
module _ (n : ℕ) (d : Day) (o q : Output) where
  -- there are none
  pub lines_end : (s : List ℕ) → length s ≡ 0 → Written o (finish n d) q → Written o (body (items s) n d) q
  lines_end s none = subst (λ l. Written o (body l n d) q) (sym (items_none s none))

  module _ (s t : List ℕ) (i : Item) (some : 0 < length s) (said : i ≡ first s) (left : t ≡ rest s) (f : Day) (p : Output) where
    step : followed (taken n d i) n d (body (items t)) ≡ body (items s) n d
    step =
        ap (λ x. followed (taken n d x) n d (body (items t))) said ∙ ap (λ l. followed (taken n d (first s)) n d (body (items l))) left ∙
        ap (λ l. body l n d) (sym (items_step s some))

    -- the first lets the run go on
    pub line_goes : Took (taken n d i) (Ok tt) d f o p → Written p (body (items t) (n + 1) f) q → Written o (body (items s) n d) q
    line_goes took more = subst (λ l. Written o l q) step (by (taken n d i) took)
      where
        by : (x : Taken) → Took x (Ok tt) d f o p → Written o (followed x n d (body (items t))) q
        by (GoesOn text e) took = written_both o p q text (body (items t) (n + 1) e) took.2 (rw (← took.1) more)
        by (Stops x) took = let z : ◌≡◌ {A = Result (Unit {0}) Fault} (Ok tt) (Err x) = took.0 in cc

    -- the first stops it
    pub line_stops : (k : Fault) → Took (taken n d i) (Err k) d f o p → Written p (stopped n k ++ finish (n + 1) f) q → Written o (body (items s) n d) q
    line_stops k took more = subst (λ l. Written o l q) step (by (taken n d i) took)
      where
        by : (x : Taken) → Took x (Err k) d f o p → Written o (followed x n d (body (items t))) q
        by (GoesOn text e) took = let z : ◌≡◌ {A = Result (Unit {0}) Fault} (Err k) (Ok tt) = took.0 in cc
        by (Stops x) took = let same : x ≡ k = let e = took.0 in cc in rw (same, ← took.1, ← took.2) more
