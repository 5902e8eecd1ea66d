-- The books that a generated day's pages make.
use Rattle.std.specs.Prelude.{◌≡◌, ◌≤◌, ℕ, List, [], ◌∷◌, Ok, IsSomeAnd, length}
use lib.Chars.{codes}
use Rattle.mari_calendar.specs.Columns.{day_columns}
use Rattle.mari_calendar.specs.Midnights.{quarters_at}
use Rattle.mari_units.specs.declared.limits.TheConstants.{MOST_PAGE}
use Rattle.mari_io.specs.Outside.{Pages, page_of}
use Rattle.mari_rows.specs.Books.{book_in}
use Rattle.mari_rows.specs.Rows.{rows_in}
use Rattle.mari_zones.specs.Borders.{borders_in, version_in}
use Rattle.mari_zones.specs.Zones.{zone_grammar}
use Rattle.mari_zones.specs.declared.borders.BorderBook.{BorderBook}
use Rattle.mari_zones.specs.declared.zones.ZoneBook.{ZoneBook}
use Rattle.mari_bids.specs.Bids.{bid_grammar}
use Rattle.mari_bids.specs.declared.bids.BidBook.{BidBook}
use Rattle.mari_links.specs.Links.{count_of, gated_in, link_grammar}
use Rattle.mari_links.specs.declared.links.LinkBook.{LinkBook}
use Rattle.mari_demands.specs.Demands.{demand_grammar}
use Rattle.mari_demands.specs.Runs.{run_grammar}
use Rattle.mari_demands.specs.declared.demands.DemandBook.{DemandBook}
use Rattle.mari_demands.specs.declared.runs.RunBook.{RunBook}
use Rattle.mari_scenario.specs.Pages.{date_text, rule_text}

-- a page isn't longer than a page may be
abbrev pub IsShort : List ℕ × List ℕ → Type 0
IsShort page = length page.1 ≤ MOST_PAGE

-- a page of this name is there, and it is so
abbrev pub HasPage : Pages → List ℕ → (List ℕ → Type 0) → Type 0
HasPage pages name Is = IsSomeAnd (page_of pages name) Is

-- how many zones, borders, bids and runs a generated day has
pub record IsOfDaySize (zones : ZoneBook) (borders : BorderBook) (bids : BidBook) (runs : RunBook) : Type 0 where
  pub eight_zones : length zones.zones ≡ 8
  pub ten_borders : length borders.borders ≡ 10
  pub bids_there : length bids.bids ≡ 960
  pub runs_there : length runs.runs ≡ 24

-- the day's page has one record, of a date and a rule by which the day has 96 quarter hours; each other file's grammar
-- accepts its page, with the books of the files before it; the borders' is of the form that states the limits itself;
-- the numbers of zones, borders, bids and runs are those of `IsOfDaySize`; and a quarter has at most eight gated bids
pub record AreAccepted (pages : Pages) : Type 0 where
  pub zones : ZoneBook
  pub borders : BorderBook
  pub bids : BidBook
  pub links : LinkBook
  pub runs : RunBook
  pub demands : DemandBook
  pub day_read : HasPage pages (codes "s/day.csv") (λ page. rows_in day_columns page ≡ Ok (record { line = 2; fields = date_text ∷ rule_text ∷ [] } ∷ []))
  pub quarters : quarters_at date_text rule_text ≡ Ok 96
  pub zones_read : HasPage pages (codes "s/zones.csv") (λ page. book_in zone_grammar page ≡ Ok zones)
  pub version : HasPage pages (codes "s/borders.csv") (λ page. version_in page ≡ 1)
  pub borders_read : HasPage pages (codes "s/borders.csv") (λ page. borders_in zones page ≡ Ok borders)
  pub bids_read : HasPage pages (codes "s/bids.csv") (λ page. book_in (bid_grammar zones 96) page ≡ Ok bids)
  pub links_read : HasPage pages (codes "s/links.csv") (λ page. book_in (link_grammar bids) page ≡ Ok links)
  pub runs_read : HasPage pages (codes "s/runs.csv") (λ page. book_in (run_grammar 96) page ≡ Ok runs)
  pub demands_read : HasPage pages (codes "s/demands.csv") (λ page. book_in (demand_grammar zones (length runs.runs)) page ≡ Ok demands)
  pub sized : IsOfDaySize zones borders bids runs
  pub few_gates : (quarter : ℕ) → count_of bids (gated_in links) quarter ≤ 8
