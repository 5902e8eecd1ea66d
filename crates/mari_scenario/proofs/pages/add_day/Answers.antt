use Rattle.mari_calendar.specs.Columns.{day_columns}
use Rattle.mari_scenario.specs.Pages.{day_text}
use Rattle.mari_scenario.proofs.pages.add_day.Goals as goal

pub returns : goal.returns
unfolding day_columns
returns c = c.add_page.ensures day_text c.in_ok-text.ensures
