-- The book of limits.
use Rattle.std.specs.Prelude.{ℕ, ◌+◌, ◌-◌, Bool, List, [], ◌∷◌, ◌++◌, Option, not, ◌&&◌, ◌==◌, length, map, codes, position, is_some, unwrap_or, option_map}
use Rattle.std.specs.List.{find, list_any, range_with_len}
use Rattle.std.specs.Option.{option_and_then}
use Rattle.mari_units.specs.Numbers.{whole_of}
use Rattle.mari_rows.specs.Books.{Checks, Grammar}
use Rattle.mari_rows.specs.Rows.{field_of}
use Rattle.mari_rows.specs.declared.rows.Row.{Row}
use Rattle.mari_zones.specs.Borders.{file_limit_in, zone_named}
use Rattle.mari_zones.specs.declared.borders.BorderBook.{BorderBook}
use Rattle.mari_zones.specs.declared.borders.BorderEnds.{BorderEnds}
use Rattle.mari_zones.specs.declared.zones.ZoneBook.{ZoneBook}
use Rattle.mari_demands.specs.Demands.{run_at, run_in}
use Rattle.mari_demands.specs.LimitChecks.{limit_check_number}
use Rattle.mari_demands.specs.LimitPairs.{no_limits, place_of_pair}
use Rattle.mari_demands.specs.declared.limits.LimitCheck.TheVariants.{BadField, Range, Repeated, UnknownBorder, UnknownRun}
use Rattle.mari_demands.specs.declared.limits.Limits.{Limits}

-- whether a border leads from one zone to another
abbrev pub leads : (from to : ℕ) → BorderEnds → Bool
leads from to border = (border.from == from) && (border.to == to)

-- a line's border, which leads from the first zone that it names to the second
abbrev pub border_in : ZoneBook → BorderBook → Row → Option ℕ
border_in zones borders row =
    option_and_then (λ from. option_and_then (λ to. position (leads from to) borders.borders) (zone_named zones (field_of row 2)))
    (zone_named zones (field_of row 1))

abbrev pub border_at : ZoneBook → BorderBook → Row → ℕ
border_at zones borders row = unwrap_or (border_in zones borders row) 0

-- the limits that a line states
abbrev pub limits_of : Row → Option Limits
limits_of row =
    option_and_then (λ limit. option_map (λ back. record { limit = limit; back = back }) (file_limit_in (field_of row 4)))
    (file_limit_in (field_of row 3))

abbrev pub limits_at : Row → Limits
limits_at row = unwrap_or (limits_of row) no_limits

module _ (zones : ZoneBook) (borders : BorderBook) (runs : ℕ) where
  -- whether a line is of a run and a border
  abbrev pub is_of : (run border : ℕ) → Row → Bool
  is_of run border row = (run_at runs row == run) && (border_at zones borders row == border)

  -- the place of a line's run and border
  abbrev pub pair_place : Row → ℕ
  pair_place row = place_of_pair (length borders.borders) (run_at runs row - 1) (border_at zones borders row)

  -- a line is refused for a field that is no number, for an unknown run and for an unknown border
  abbrev pub name_checks : Row → Checks
  name_checks row =
      (not (is_some (whole_of (field_of row 0)) && is_some (whole_of (field_of row 3)) && is_some (whole_of (field_of row 4))), limit_check_number BadField)
      ∷ (not (is_some (run_in runs row)), limit_check_number UnknownRun)
      ∷ (not (is_some (border_in zones borders row)), limit_check_number UnknownBorder)
      ∷ []

  -- and for the run and border of an earlier line, and for a limit out of range
  abbrev pub pair_checks : List Row → Row → Checks
  pair_checks earlier row =
      (list_any (is_of (run_at runs row) (border_at zones borders row)) earlier, limit_check_number Repeated)
      ∷ (not (is_some (limits_of row)), limit_check_number Range)
      ∷ []

  abbrev pub line_checks : List Row → Row → Checks
  line_checks earlier row = name_checks row ++ pair_checks earlier row

  -- what lines state of a border in a run
  abbrev pub stated : List Row → (run border : ℕ) → Option Limits
  stated rows run border = option_map limits_at (find (is_of run border) rows)

  -- the limits of each border in each run: 0 and 0 where no line states them
  abbrev pub limit_table : List Row → List (List Limits)
  limit_table rows =
      map (λ run. map (λ border. unwrap_or (stated rows (run + 1) border) no_limits) (range_with_len 0 (length borders.borders))) (range_with_len 0 runs)

-- the columns of the file
unfoldable pub limit_columns : List ℕ
limit_columns = codes "run,from,to,limit,back"

-- what makes a page a book of limits for these borders and `runs` runs
abbrev pub limit_grammar : ZoneBook → BorderBook → ℕ → Grammar (List (List Limits))
limit_grammar zones borders runs = record {
  columns = limit_columns;
  line_checks = line_checks zones borders runs;
  file_checks = λ rows. [];
  book = limit_table zones borders runs;
}
