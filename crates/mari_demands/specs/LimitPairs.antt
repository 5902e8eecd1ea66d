-- Limits as a table: for each run the limits of each border.
use Rattle.std.specs.Prelude.{◌≡◌, ◌≤◌, ◌<◌, ℕ, ◌+◌, ◌-◌, ◌*◌, List, [], Option, None, get_or, length, map, unwrap_or}
use Rattle.std.specs.List.{range_with_len}
use Rattle.mari_demands.specs.declared.limits.Limits.{Limits}
use Rattle.mari_units.specs.declared.limits.TheConstants.{MOST_MW}

-- no limit at all: nothing may flow
abbrev pub no_limits : Limits
no_limits = record { limit = 0; back = 0 }

-- the limits at a place of a list of them, where none are stated 0 and 0
abbrev pub limits_there : List (Option Limits) → ℕ → Limits
limits_there flat place = unwrap_or (get_or flat place None) no_limits

-- the place of a run, counted from 0, and a border in a list that has the first run's borders first, then the second's,
-- and so on
abbrev pub place_of_pair : (borders run border : ℕ) → ℕ
place_of_pair borders run border = run * borders + border

-- the table of such a list
abbrev pub table_of : (runs borders : ℕ) → List (Option Limits) → List (List Limits)
table_of runs borders flat =
    map (λ run. map (λ border. limits_there flat (place_of_pair borders run border)) (range_with_len 0 borders)) (range_with_len 0 runs)

-- a border's limits in a run, which counts from 1
abbrev pub limits_in : List (List Limits) → (run border : ℕ) → Limits
limits_in table run border = get_or (get_or table (run - 1) []) border no_limits

-- a table of limits in range, for `runs` runs and `borders` borders
pub record IsLimitTable (runs borders : ℕ) (table : List (List Limits)) : Type 0 where
  pub runs_there : length table ≡ runs
  pub borders_there : (run : ℕ) → run < runs → length (get_or table run []) ≡ borders
  pub limit : (run border : ℕ) → (limits_in table run border).limit ≤ MOST_MW
  pub back : (run border : ℕ) → (limits_in table run border).back ≤ MOST_MW
