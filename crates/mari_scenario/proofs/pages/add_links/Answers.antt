use Rattle.std.proofs.Common.{◌++◌, ◌∙◌, List, ℕ, ap}
use Rattle.mari_links.specs.Links.{link_columns}
use Rattle.mari_scenario.specs.Draws.{lines}
use Rattle.mari_scenario.specs.Pages.{link_lines, links_text}
use Rattle.mari_scenario.proofs.pages.add_links.Goals as goal

pub returns : goal.returns
unfolding link_columns
returns c = c.add_page.ensures links_text (c.in_ok-put_links.ensures.text ∙ ap (λ (text : List ℕ). text ++ (lines link_lines 24 0).text) c.in_ok-text.ensures)
