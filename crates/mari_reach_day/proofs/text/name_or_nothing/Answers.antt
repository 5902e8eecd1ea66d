use Rattle.std.proofs.Common.{◌≡◌, ◌∙◌, [], ℕ, List, Option, None, sym, ap}
use Rattle.std.specs.Prelude.{slice_get, unwrap_or}
use Rattle.std.proofs.lemmas.Option.{unwrap_or-slice_get}
use Rattle.mari_reach_day.proofs.text.name_or_nothing.Goals as goal

-- where there is no name, the one at the place is nothing
nothing_there : (names : List (List ℕ)) (place : ℕ) → slice_get names place ≡ None → [] ≡ unwrap_or (slice_get names place) []
nothing_there names place e = ap (λ (o : Option (List ℕ)). unwrap_or o []) (sym e)

pub returns-in-None : goal.returns-in-None
returns-in-None c =
    let none : slice_get c.args.names.now c.args.place ≡ None = sym c.in-None.ensures in
    nothing_there c.args.names.now c.args.place none ∙ unwrap_or-slice_get c.args.names.now c.args.place []
