-- The pages of a generated day are accepted.
use Rattle.std.proofs.Common.{◌≡◌, ℕ, Result, Ok, Err, IfOk, All}
use Rattle.mari_io.specs.Outside.{Pages}
use Rattle.mari_scenario.specs.Accepted.{AreAccepted, IsShort}
use Rattle.mari_scenario.specs.Pages.{before_bids, before_demands, before_runs, scenario_at}
use Rattle.mari_scenario.proofs.BidPage.{bids-accepted, the_bids}
use Rattle.mari_scenario.proofs.BidPlaces.{bid-named, count-bids, count-ids, divisible, quarter-reported}
use Rattle.mari_scenario.proofs.BorderPage.{borders-accepted, count-borders, the_borders, version-one}
use Rattle.mari_scenario.proofs.DayPage.{day-read, quarters-read}
use Rattle.mari_scenario.proofs.DemandPage.{demands-accepted, the_demands}
use Rattle.mari_scenario.proofs.FewGates.{few-gates}
use Rattle.mari_scenario.proofs.LinkPage.{links-accepted, the_links}
use Rattle.mari_scenario.proofs.RunPage.{count-runs, runs-accepted, the_runs}
use Rattle.mari_scenario.proofs.Sizes.{pages-short}
use Rattle.mari_scenario.proofs.ZonePage.{count-zones, the_zones, zones-accepted}

are-accepted : (number : ℕ) → AreAccepted (scenario_at number)
unfolding scenario_at
are-accepted number =
    let bids = the_bids (before_bids number) in
    let named = bid-named (before_bids number) in
    let reported = quarter-reported (before_bids number) in
    let count = count-ids (before_bids number) in
    record {
      zones = the_zones;
      borders = the_borders number;
      bids = bids;
      links = the_links bids named reported count;
      runs = the_runs (before_runs number);
      demands = the_demands (before_demands number);
      day_read = day-read;
      quarters = quarters-read;
      zones_read = zones-accepted;
      version = version-one number;
      borders_read = borders-accepted number;
      bids_read = bids-accepted (before_bids number);
      links_read = links-accepted bids named reported count;
      runs_read = runs-accepted (before_runs number);
      demands_read = rw (count-runs (before_runs number)) (demands-accepted (before_demands number));
      sized = record {
        eight_zones = count-zones;
        ten_borders = count-borders number;
        bids_there = count-bids (before_bids number);
        runs_there = count-runs (before_runs number);
      };
      few_gates = few-gates bids named reported count (divisible (before_bids number));
    }

pub all-accepted : (number : ℕ) (pages : Pages) → pages ≡ scenario_at number → AreAccepted pages
all-accepted number pages are = rw are (are-accepted number)

pub all-short : (number : ℕ) (pages : Pages) → pages ≡ scenario_at number → All IsShort pages
all-short number pages are = rw are (pages-short number)

-- what follows from a fact of a value
pub if-ok : {X E : Type 0} (P Q : X → Type 0) → ((x : X) → P x → Q x) → (r : Result X E) → IfOk r P → IfOk r Q
if-ok P Q follows (Ok x) is = follows x is
if-ok P Q follows (Err e) is = tt
