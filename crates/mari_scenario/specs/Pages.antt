-- The pages of a generated day.
use Rattle.std.specs.Prelude.{ℕ, ◌+◌, ◌-◌, ◌/◌, ◌%◌, Bool, List, [], ◌∷◌, ◌++◌, ◌==◌, nat_lt, if◌then◌else◌, ℤ, pos, ◌-ℤ◌}
use lib.Chars.{codes}
use Rattle.std.specs.Fmt.{decimal, signed_decimal}
use Rattle.mari_units.specs.Numbers.{printed_cents}
use Rattle.mari_io.specs.Outside.{Pages}
use Rattle.mari_calendar.specs.Columns.{day_columns}
use Rattle.mari_rows.specs.Printed.{line_of, page_text}
use Rattle.mari_zones.specs.Zones.{zone_columns}
use Rattle.mari_zones.specs.Borders.{border_columns}
use Rattle.mari_bids.specs.Bids.{bid_columns}
use Rattle.mari_links.specs.Links.{link_columns}
use Rattle.mari_demands.specs.Runs.{run_columns, scheduled_word}
use Rattle.mari_demands.specs.Demands.{demand_columns}
use Rattle.mari_scenario.specs.Draws.{Drawn, after, draw, lines}

-- the names of zones, operators, providers, bids and groups, by their numbers from 1
abbrev pub zone : ℕ → List ℕ
zone i = codes "Z" ++ decimal i

abbrev pub operator : ℕ → List ℕ
operator i = codes "T" ++ decimal i

abbrev pub provider : ℕ → List ℕ
provider i = codes "P" ++ decimal i

abbrev pub bid : (quarter place : ℕ) → List ℕ
bid t j = codes "q" ++ decimal t ++ codes "b" ++ decimal j

abbrev pub group : ℕ → List ℕ
group t = codes "g" ++ decimal t

-- the one date of the day, and the rule of its clock
abbrev pub date_text : List ℕ
date_text = codes "2025-03-12"

abbrev pub rule_text : List ℕ
rule_text = codes "UTC0"

-- a line of a file without draws
abbrev pub still : List ℕ → ℕ → Drawn
still text x = record { text = text; state = x }

-- zone number i + 1 of eight; each of four operators has two
abbrev pub zone_line : ℕ → ℕ → Drawn
zone_line i x = still (line_of (zone (i + 1) ∷ operator (i % 4 + 1) ∷ [])) x

-- a ring of eight zones, and two borders across it
abbrev pub from_of : ℕ → ℕ
from_of i = if nat_lt i 8 then i + 1 else (if i == 8 then 1 else 3)

abbrev pub to_of : ℕ → ℕ
to_of i = if nat_lt i 7 then i + 2 else (if i == 7 then 1 else (if i == 8 then 5 else 7))

-- border number i + 1 of ten
abbrev pub border_line : ℕ → ℕ → Drawn
border_line i x = record {
  text = line_of (zone (from_of i) ∷ zone (to_of i) ∷ decimal (20 + draw 1 80 x) ∷ decimal (20 + draw 2 80 x) ∷ []);
  state = after 2 x;
}

-- the word of a direction
abbrev pub direction : Bool → List ℕ
direction up = if up then codes "up" else codes "down"

-- the word of the runs that a bid is for
abbrev pub kind : Bool → List ℕ
kind both = if both then codes "both" else codes "scheduled"

-- what the draws of a bid give, from the state before them: its direction, its price in cents, its greatest quantity
-- and its kind
abbrev pub is_up : ℕ → Bool
is_up x = nat_lt (draw 2 4 x) 3

abbrev pub bid_price : ℕ → ℤ
bid_price x = if is_up x then pos (3000 + draw 3 9000 x) else pos (draw 3 6000 x) -ℤ pos 1000

abbrev pub greatest : ℕ → ℕ
greatest x = 5 + draw 4 46 x

abbrev pub is_both : ℕ → Bool
is_both x = draw 5 2 x == 0

-- the least quantity: every fifth bid is indivisible
abbrev pub bid_least : (place greatest : ℕ) → ℕ
bid_least j greatest = if j % 5 == 0 then greatest else 0

-- the bid at a place from 1 of a quarter; ten providers take turns
abbrev pub bid_text : (quarter place state : ℕ) → List ℕ
bid_text t j x =
    line_of (bid t j ∷ provider ((j - 1) % 10 + 1) ∷ zone (1 + draw 1 8 x) ∷ decimal t ∷ direction (is_up x)
    ∷ printed_cents (bid_price x) ∷ decimal (bid_least j (greatest x)) ∷ decimal (greatest x) ∷ kind (is_both x) ∷ [])

-- bid number i + 1 of 24 quarters with forty bids each
abbrev pub bid_line : ℕ → ℕ → Drawn
bid_line i x = record { text = bid_text (i / 40 + 1) (i % 40 + 1) x; state = after 5 x }

-- the links of quarter i + 1: two of its bids in a group, and another two child and parent
abbrev pub link_lines : ℕ → ℕ → Drawn
link_lines i x = still (
    line_of (codes "group" ∷ group (i + 1) ∷ bid (i + 1) 10 ∷ [])
    ++ line_of (codes "group" ∷ group (i + 1) ∷ bid (i + 1) 15 ∷ [])
    ++ line_of (codes "child" ∷ bid (i + 1) 25 ∷ bid (i + 1) 20 ∷ [])) x

-- the run of quarter i + 1
abbrev pub run_line : ℕ → ℕ → Drawn
run_line i x = record {
  text = line_of (decimal (i + 1) ∷ decimal (i + 1) ∷ scheduled_word ∷ printed_cents (pos (4000 + draw 1 4000 x)) ∷ []);
  state = after 1 x;
}

-- demand number i + 1 of 24 runs with eight zones each, with this price or with none
abbrev pub demand_text : (i state : ℕ) → List ℕ → List ℕ
demand_text i x price = line_of (decimal (i / 8 + 1) ∷ zone (i % 8 + 1) ∷ signed_decimal (pos (draw 1 61 x) -ℤ pos 20) ∷ price ∷ [])

-- one of three values of the second draw makes it elastic, at a price that the third gives
abbrev pub demand_line : ℕ → ℕ → Drawn
demand_line i x =
    if draw 2 3 x == 2 then record { text = demand_text i x (printed_cents (pos (5000 + draw 3 10000 x))); state = after 3 x }
    else record { text = demand_text i x []; state = after 2 x }

-- pages with one more after them, of this name and text
abbrev pub with_page : Pages → (name text : List ℕ) → Pages
with_page pages name text = pages ++ (name, text) ∷ []

-- the pages' texts, from the states before them
abbrev pub day_text : List ℕ
day_text = page_text day_columns ((date_text ∷ rule_text ∷ []) ∷ [])

abbrev pub zones_text : List ℕ
zones_text = zone_columns ++ 10 ∷ (lines zone_line 8 0).text

abbrev pub borders_at : ℕ → Drawn
borders_at x = lines border_line 10 x

abbrev pub bids_at : ℕ → Drawn
bids_at x = lines bid_line 960 x

abbrev pub links_text : List ℕ
links_text = link_columns ++ 10 ∷ (lines link_lines 24 0).text

abbrev pub runs_at : ℕ → Drawn
runs_at x = lines run_line 24 x

abbrev pub demands_at : ℕ → Drawn
demands_at x = lines demand_line 192 x

-- the pages, where borders, bids, runs and demands draw in this order
abbrev pub pages_by : (borders bids runs demands : List ℕ) → Pages
pages_by borders bids runs demands =
    (codes "s/day.csv", day_text)
    ∷ (codes "s/zones.csv", zones_text)
    ∷ (codes "s/borders.csv", border_columns ++ 10 ∷ borders)
    ∷ (codes "s/bids.csv", bid_columns ++ 10 ∷ bids)
    ∷ (codes "s/links.csv", links_text)
    ∷ (codes "s/runs.csv", run_columns ++ 10 ∷ runs)
    ∷ (codes "s/demands.csv", demand_columns ++ 10 ∷ demands)
    ∷ []

-- the state before the bids, the runs and the demands of a number
abbrev pub before_bids : ℕ → ℕ
before_bids number = (borders_at number).state

abbrev pub before_runs : ℕ → ℕ
before_runs number = (bids_at (before_bids number)).state

abbrev pub before_demands : ℕ → ℕ
before_demands number = (runs_at (before_runs number)).state

-- the seven pages of a number
unfoldable pub scenario_at : ℕ → Pages
scenario_at number =
    pages_by (borders_at number).text (bids_at (before_bids number)).text (runs_at (before_runs number)).text (demands_at (before_demands number)).text
