use Rattle.std.proofs.Common.{◌++◌, ◌∷◌, ◌∙◌, List, ℕ, ap}
use Rattle.mari_bids.specs.Bids.{bid_columns}
use Rattle.mari_scenario.specs.Pages.{bids_at}
use Rattle.mari_scenario.proofs.pages.add_bids.Goals as goal

pub returns-clause-page : goal.returns-clause-page
unfolding bid_columns
returns-clause-page c =
    let drawn = (bids_at c.args.number).text in
    c.in_ok-add_page.ensures (bid_columns ++ 10 ∷ drawn) (c.in_ok-after.ensures.text ∙ ap (λ (text : List ℕ). text ++ drawn) c.in_ok-text.ensures)
