use Rattle.std.proofs.Common.{◌++◌, ◌∷◌, ◌∙◌, List, ℕ, ap}
use Rattle.mari_zones.specs.Borders.{border_columns}
use Rattle.mari_scenario.specs.Pages.{borders_at}
use Rattle.mari_scenario.proofs.pages.add_borders.Goals as goal

pub returns-clause-page : goal.returns-clause-page
unfolding border_columns
returns-clause-page c =
    let drawn = (borders_at c.args.number).text in
    c.in_ok-add_page.ensures (border_columns ++ 10 ∷ drawn) (c.in_ok-after.ensures.text ∙ ap (λ (text : List ℕ). text ++ drawn) c.in_ok-text.ensures)
