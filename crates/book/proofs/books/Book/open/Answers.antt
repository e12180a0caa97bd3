use Rattle.std.proofs.Common.{◌≡◌, [], None, vec_items, sym, refl, ap, ◌∙◌}
use Rattle.std.proofs.lemmas.List.{nil_from_length}
use Rattle.book.proofs.Histories.{lawful}
use Rattle.book.proofs.books.Book.open.Given as given
use Rattle.book.proofs.books.Book.open.Goals as goal
use Rattle.book.proofs.books.Book.open.Goals.{Start}

none : (g : given.Over) (c : Start g) → vec_items c.args.list ≡ []
none g c = nil_from_length (vec_items c.args.list) (sym c.args.list.ok.0 ∙ c.requires.empty)

pub returns : goal.returns
returns g c =
    let state = ap (λ rows. record { rows = rows; case = None; opened = 0; balances = g.C.House.balances c.args.house }) (none g (goal.at.returns g c).Start) in
    record { state = state; ready = refl; history = record { opening = c.requires.checked; book = state; readiness = tt }; lawful = lawful (g.C.House.balances c.args.house) [] c.requires.checked }
