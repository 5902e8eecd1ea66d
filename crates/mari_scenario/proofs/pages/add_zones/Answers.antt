use Rattle.std.proofs.Common.{◌++◌, ◌∙◌, List, ℕ, ap}
use Rattle.mari_zones.specs.Zones.{zone_columns}
use Rattle.mari_scenario.specs.Draws.{lines}
use Rattle.mari_scenario.specs.Pages.{zone_line, zones_text}
use Rattle.mari_scenario.proofs.pages.add_zones.Goals as goal

pub returns : goal.returns
unfolding zone_columns
returns c = c.add_page.ensures zones_text (c.in_ok-put_zones.ensures.text ∙ ap (λ (text : List ℕ). text ++ (lines zone_line 8 0).text) c.in_ok-text.ensures)
