use Rattle.book.proofs.States.{alike}
use Rattle.std.proofs.Common.{◌≡◌, ℕ, ◌+◌, ◌-◌, Ok, set, vec_items, refl, ap, ◌∙◌, arith, rules}
use Rattle.std.proofs.lemmas.Bool.Decides.{nat_tests}
use Rattle.division.specs.Refusals.{clear}
use Rattle.division.proofs.Checks.{first_refuses, second_refuses, both_pass}
use Rattle.book.specs.declared.rows.Row.{Row}
use Rattle.book.specs.Rows.{shares, row_of, found, based_as_required}
use Rattle.book.specs.States.{missing, excess, regulation, settle_checks}
use Rattle.book.specs.Calls.{Paid}
use Rattle.book.specs.Books.{view}
use Rattle.book.proofs.Histories.{stops_with, told, accepted_goes_on}
use Rattle.book.proofs.Places.{lent, row_is, replaced}
use Rattle.book.proofs.Shares.{same_for_member, when_regulated}
use Rattle.book.proofs.books.Book.regulate.Given as given
use Rattle.book.proofs.books.Book.regulate.Goals as goal
use Rattle.book.proofs.books.Book.regulate.Goals.{After-settle, After-index_mut}

pub returns-in_err-i : goal.returns-in_err-i
returns-in_err-i g c =
    let s = view g.C.House.balances c.args.self.now in
    let back = c.from_residual.ensures.1 in
    let answer = first_refuses (regulation s c.args.code) (settle_checks (g.C.House.ready c.args.self.now.house) s.balances c.args.code (missing s c.args.code) (excess s c.args.code)) _ (missing s c.args.code, excess s c.args.code) _ c.in_err-i.ensures.answer in
    record { answer = told _ _ back answer; state = search rules; ready = search rules; unpaid = search rules; history = stops_with _ _ _ back _ _ answer refl refl }

-- the row that is regulated, and what is paid in and out
paid : (g : given.Over) (c : After-settle g) → (c.in_ok-i.row ≡ row_of (vec_items c.args.self.now.table.rows) c.args.code) × (c.saturating_sub-paid_in.result ≡ missing (view g.C.House.balances c.args.self.now) c.args.code) × (c.saturating_sub-paid_out.result ≡ excess (view g.C.House.balances c.args.self.now) c.args.code)
paid g c =
    let s = view g.C.House.balances c.args.self.now in
    let mine = row_is (regulation s c.args.code) s.rows c.args.code c.in_ok-i.i c.in_ok-i.row c.in_ok-i.ensures.answer in
    (mine, c.saturating_sub-paid_in.ensures ∙ ap (λ r. r.required - r.base) mine, c.saturating_sub-paid_out.ensures ∙ ap (λ r. r.base - r.required) mine)

pub returns-in_err-settle : goal.returns-in_err-settle
returns-in_err-settle g c =
    let s = view g.C.House.balances c.args.self.now in
    let p = paid g (goal.at.returns-in_err-settle g c).After-settle in
    let back = c.from_residual-in_err-settle.ensures.1 in
    let answer = second_refuses (regulation s c.args.code) (settle_checks (g.C.House.ready c.args.self.now.house) s.balances c.args.code (missing s c.args.code) (excess s c.args.code)) _ (missing s c.args.code, excess s c.args.code) _ _ c.in_ok-i.ensures.answer (cc (c.in_err-settle.ensures.answer, p.1, p.2)) in
    record { answer = told _ _ back answer; state = search rules; ready = search rules; unpaid = search rules; history = stops_with _ _ _ back _ _ answer (search rules) (search rules) }

abbrev based_on : ℕ → Row → Row
based_on n r = record { code = r.code; standing = r.standing; base = n; reserve = r.reserve; required = r.required; charged = r.charged }

-- the row as it was lent, and what is written there
lent_row : (g : given.Over) (c : After-index_mut g) → c.index_mut.result.now ≡ row_of (vec_items c.args.self.now.table.rows) c.args.code
lent_row g c = lent (vec_items c.args.self.now.table.rows) c.args.code c.in_ok-i.i c.index_mut.result.now c.in_ok-i.ensures.stands c.index_mut.ensures.value

written : (g : given.Over) (c : After-index_mut g) → based_on c.in_ok-i.row.required c.index_mut.result.now ≡ based_as_required (row_of (vec_items c.args.self.now.table.rows) c.args.code)
written g c = ap (λ r. based_on r.required c.index_mut.result.now) (paid g (goal.at.After-index_mut g c).After-settle).0 ∙ ap (based_on (row_of (vec_items c.args.self.now.table.rows) c.args.code).required) (lent_row g c)

pub invariant_of-self-2 : goal.invariant_of-self-2
invariant_of-self-2 g c =
    let s = view g.C.House.balances c.args.self.now in
    let a = (goal.at.invariant_of-self-2 g c).After-index_mut in
    let stands = c.in_ok-i.ensures.stands in
    let w = based_on c.in_ok-i.row.required c.index_mut.result.now in
    let e = ap (λ r. shares (set s.rows c.in_ok-i.i r)) (written g a) in
    let t = same_for_member (λ r. r.charged) s.rows c.args.code c.in_ok-i.i w stands (ap (λ r. r.charged) (lent_row g a)) in
    let limit = when_regulated s c.args.code c.in_ok-i.i (found s.rows c.args.code) _ c.in_ok-i.ensures.answer stands in
    ((omega arith, (omega arith, (omega (arith, e, limit), (omega (arith, t, c.args.self.now.table.charged), tt)))), (t ∙ c.args.self.now.tally, tt))

pub returns : goal.returns
returns g c =
    let s = view g.C.House.balances c.args.self.now in
    let p = paid g (goal.at.returns g c).After-settle in
    let i = p.1 in
    let o = p.2 in
    let checks = settle_checks (g.C.House.ready c.args.self.now.house) s.balances c.args.code in
    let answer = ap (λ n. Ok (n, c.saturating_sub-paid_out.result)) i ∙ ap (λ n. Ok (missing s c.args.code, n)) o
    ∙ both_pass (regulation s c.args.code) (checks (missing s c.args.code) (excess s c.args.code)) (found s.rows c.args.code) (missing s c.args.code, excess s c.args.code) _ _ c.in_ok-i.ensures.answer
    (c.in_ok-settle.ensures.answer ∙ ap (λ n. clear (checks n c.saturating_sub-paid_out.result)) i ∙ ap (λ n. clear (checks (missing s c.args.code) n)) o) in
    let row = replaced based_as_required c.args.code s.rows c.in_ok-i.i _ c.in_ok-i.ensures.stands (written g (goal.at.returns g c).After-index_mut) in
    let state = alike row refl (cc (c.in_ok-settle.ensures.balances, i, o)) in
    let unpaid = λ (z : missing s c.args.code + excess s c.args.code ≡ 0). c.in_ok-settle.ensures.unpaid (omega (arith, i, o, z)) in
    record { answer = answer; state = state; ready = tt; unpaid = unpaid; history = accepted_goes_on _ (λ (p : ℕ × ℕ). Paid p.0 p.1) answer refl state (λ still. unpaid (grind (arith, nat_tests))) }
