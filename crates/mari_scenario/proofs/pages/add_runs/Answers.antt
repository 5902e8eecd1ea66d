use Rattle.std.proofs.Common.{◌++◌, ◌∷◌, ◌∙◌, List, ℕ, ap}
use Rattle.mari_demands.specs.Runs.{run_columns}
use Rattle.mari_scenario.specs.Pages.{runs_at}
use Rattle.mari_scenario.proofs.pages.add_runs.Goals as goal

pub returns-clause-page : goal.returns-clause-page
unfolding run_columns
returns-clause-page c =
    let drawn = (runs_at c.args.number).text in
    c.in_ok-add_page.ensures (run_columns ++ 10 ∷ drawn) (c.in_ok-after.ensures.text ∙ ap (λ (text : List ℕ). text ++ drawn) c.in_ok-text.ensures)
