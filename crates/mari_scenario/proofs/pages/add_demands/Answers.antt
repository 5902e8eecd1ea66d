use Rattle.std.proofs.Common.{◌++◌, ◌∷◌, ◌∙◌, List, ℕ, ap}
use Rattle.mari_demands.specs.Demands.{demand_columns}
use Rattle.mari_scenario.specs.Pages.{demands_at}
use Rattle.mari_scenario.proofs.pages.add_demands.Goals as goal

pub returns : goal.returns
unfolding demand_columns
returns c =
    let drawn = (demands_at c.args.number).text in
    c.add_page.ensures (demand_columns ++ 10 ∷ drawn) (c.in_ok-put_demands.ensures.text ∙ ap (λ (text : List ℕ). text ++ drawn) c.in_ok-text.ensures)
