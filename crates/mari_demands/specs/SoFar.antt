-- What stands in memory while a page of runs, of demands or of limits is read.
use Rattle.std.specs.Prelude.{◌≡◌, ◌≤◌, ◌<◌, ◌+◌, ◌*◌, ℕ, List, None, get_or, length, map}
use Rattle.mari_rows.specs.declared.rows.Row.{Row}
use Rattle.mari_demands.specs.Demands.{count_of, demand_of}
use Rattle.mari_demands.specs.LimitPairs.{place_of_pair}
use Rattle.mari_demands.specs.Limits.{stated}
use Rattle.mari_demands.specs.Runs.{last_quarter, run_of}
use Rattle.mari_demands.specs.declared.demands.DemandsSoFar.{DemandsSoFar}
use Rattle.mari_demands.specs.declared.limits.LimitsSoFar.{LimitsSoFar}
use Rattle.mari_demands.specs.declared.runs.RunsSoFar.{RunsSoFar}
use Rattle.mari_units.specs.declared.limits.TheConstants.{MOST_BORDERS, MOST_RUNS}

-- the runs of these lines, and the quarter of the last of them
pub record HoldsRuns (rows : List Row) (so_far : RunsSoFar) : Type 0 where
  pub runs : so_far.runs.items ≡ map (run_of so_far.quarters) rows
  pub last : so_far.last ≡ last_quarter so_far.quarters rows

-- the demands of these lines, and how many of them each run has
pub record HoldsDemands (rows : List Row) (so_far : DemandsSoFar) : Type 0 where
  pub demands : so_far.demands.items ≡ map (demand_of so_far.zones.now so_far.runs) rows
  pub sized : length so_far.counts.items ≡ so_far.runs + 1
  pub counts : (k : ℕ) → k ≤ so_far.runs → get_or so_far.counts.items k 0 ≡ count_of so_far.runs rows k

-- what these lines state of each border in each run, at its place
pub record HoldsLimits (rows : List Row) (so_far : LimitsSoFar) : Type 0 where
  pub few_runs : so_far.runs ≤ MOST_RUNS
  pub few_borders : length so_far.borders.now.borders ≤ MOST_BORDERS
  pub sized : length so_far.limits.items ≡ so_far.runs * length so_far.borders.now.borders
  pub limits : (run border : ℕ) → run < so_far.runs → border < length so_far.borders.now.borders
      → get_or so_far.limits.items (place_of_pair (length so_far.borders.now.borders) run border) None
      ≡ stated so_far.zones.now so_far.borders.now so_far.runs rows (run + 1) border
