use Rattle.std.proofs.Common.{◌≡◌, All}
use Rattle.mari_io.specs.Memory.{pages_of}
use Rattle.mari_scenario.specs.Accepted.{AreAccepted, IsShort}
use Rattle.mari_scenario.specs.Pages.{scenario_at}
use Rattle.mari_scenario.proofs.AllAccepted.{all-accepted, all-short, if-ok}
use Rattle.mari_scenario.proofs.pages.scenario_pages.Goals as goal

pub returns-clause-accepted : goal.returns-clause-accepted
returns-clause-accepted c = if-ok (λ pages. pages_of pages.items ≡ scenario_at c.args.number) (λ pages. AreAccepted (pages_of pages.items))
    (λ pages is. all-accepted c.args.number (pages_of pages.items) is) c.drawn_pages.result c.drawn_pages.ensures.pages

pub returns-clause-short : goal.returns-clause-short
returns-clause-short c = if-ok (λ pages. pages_of pages.items ≡ scenario_at c.args.number) (λ pages. All IsShort (pages_of pages.items))
    (λ pages is. all-short c.args.number (pages_of pages.items) is) c.drawn_pages.result c.drawn_pages.ensures.pages
