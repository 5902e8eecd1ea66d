-- The book of demands.
use Rattle.std.specs.Prelude.{◌≤◌, ◌<◌, IfSome, ℕ, ◌==◌, ℤ, pos, neg_ℤ, Bool, List, [], ◌∷◌, ◌++◌, Option, Some, None, not, ◌&&◌, ◌||◌, nat_le, int_le, length, map, codes, is_some, unwrap_or, count_by, if◌then◌else◌}
use Rattle.std.specs.Option.{option_and_then}
use Rattle.std.specs.List.{All}
use Rattle.mari_units.specs.declared.limits.TheConstants.{MOST_DEMANDS, MOST_MW}
use Rattle.mari_units.specs.Numbers.{Within, price_of, whole_of}
use Rattle.mari_units.specs.Prices.{IsCapped}
use Rattle.mari_rows.specs.Books.{Checks, Grammar}
use Rattle.mari_rows.specs.Fields.{cents_in, number_in}
use Rattle.mari_rows.specs.Rows.{field_of}
use Rattle.mari_rows.specs.declared.rows.Row.{Row}
use Rattle.mari_zones.specs.Borders.{zone_named}
use Rattle.mari_zones.specs.declared.zones.ZoneBook.{ZoneBook}
use Rattle.mari_demands.specs.DemandChecks.{demand_check_number}
use Rattle.mari_demands.specs.declared.demands.Demand.{Demand}
use Rattle.mari_demands.specs.declared.demands.DemandBook.{DemandBook}
use Rattle.mari_demands.specs.declared.demands.DemandCheck.TheVariants.{BadField, Range, TooMany, UnknownRun, UnknownZone}

-- a line's run, which is from 1 to `runs`
abbrev pub run_in : ℕ → Row → Option ℕ
run_in runs row = number_in 1 runs (field_of row 0)

abbrev pub run_at : ℕ → Row → ℕ
run_at runs row = unwrap_or (run_in runs row) 0

-- a line's zone, by its place
abbrev pub zone_in : ZoneBook → Row → Option ℕ
zone_in zones row = zone_named zones (field_of row 1)

-- a quantity of a demand, in MW
abbrev pub within_mw : ℤ → Option ℤ
within_mw mw = if int_le (neg_ℤ (pos MOST_MW)) mw && int_le mw (pos MOST_MW) then Some mw else None

-- a line's quantity, in MW
abbrev pub mw_in : Row → Option ℤ
mw_in row = option_and_then within_mw (whole_of (field_of row 2))

-- whether a line states no price, and so is inelastic
abbrev pub is_inelastic : Row → Bool
is_inelastic row = length (field_of row 3) == 0

-- how many of these lines are of a run
abbrev pub count_of : ℕ → List Row → ℕ → ℕ
count_of runs rows run = count_by (λ row. run_at runs row == run) rows

-- a line is refused for a bad field, for an unknown run, for an unknown zone, and for a quantity or a price out of
-- range
abbrev pub demand_checks : ZoneBook → ℕ → Row → Checks
demand_checks zones runs row = (
  not (is_some (whole_of (field_of row 0)) && is_some (whole_of (field_of row 2)) && (is_inelastic row || is_some (price_of (field_of row 3)))),
  demand_check_number BadField,
)
    ∷ (not (is_some (run_in runs row)), demand_check_number UnknownRun)
    ∷ (not (is_some (zone_in zones row)), demand_check_number UnknownZone)
    ∷ (not (is_some (mw_in row) && (is_inelastic row || is_some (cents_in (field_of row 3)))), demand_check_number Range)
    ∷ []

-- and after `MOST_DEMANDS` demands of its run
abbrev pub line_checks : ZoneBook → ℕ → List Row → Row → Checks
line_checks zones runs earlier row =
    demand_checks zones runs row ++ (nat_le MOST_DEMANDS (count_of runs earlier (run_at runs row)), demand_check_number TooMany) ∷ []

-- the demand of a line
abbrev pub demand_of : ZoneBook → ℕ → Row → Demand
demand_of zones runs row = record {
  run = run_at runs row;
  zone = unwrap_or (zone_in zones row) 0;
  mw = unwrap_or (mw_in row) (pos 0);
  price = cents_in (field_of row 3);
}

-- each line's demand
abbrev pub demand_book : ZoneBook → ℕ → List Row → DemandBook
demand_book zones runs rows = record { demands = map (demand_of zones runs) rows }

-- the columns of the file
unfoldable pub demand_columns : List ℕ
demand_columns = codes "run,zone,mw,price"

-- what makes a page a book of demands in these zones, for `runs` runs
abbrev pub demand_grammar : ZoneBook → ℕ → Grammar DemandBook
demand_grammar zones runs = record {
  columns = demand_columns;
  line_checks = line_checks zones runs;
  file_checks = λ rows. [];
  book = demand_book zones runs;
}

-- a demand of a run from 1 to `runs`, in a zone of the day, with its quantity and its price in range
pub record IsDemand (zones : ZoneBook) (runs : ℕ) (demand : Demand) : Type 0 where
  pub first_run : 1 ≤ demand.run
  pub last_run : demand.run ≤ runs
  pub zone : demand.zone < length zones.zones
  pub mw : Within MOST_MW demand.mw
  pub price : IfSome demand.price IsCapped

-- what holds of every book of demands that is read: no run has more than `MOST_DEMANDS`
pub record IsDemandBook (zones : ZoneBook) (runs : ℕ) (book : DemandBook) : Type 0 where
  pub demands : All (IsDemand zones runs) book.demands
  pub of_run : (run : ℕ) → count_by (λ (demand : Demand). demand.run == run) book.demands ≤ MOST_DEMANDS
