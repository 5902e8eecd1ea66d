-- A date as ten bytes, and its day number.
use Rattle.std.specs.Prelude.{ℕ, ◌+◌, ◌*◌, ◌&&◌, List, length, slice_index, Option, Some, None, ◌==◌, nat_le, if◌then◌else◌, ℤ, pos}
use Rattle.mari_units.specs.Numbers.{two_digits}
use Rattle.mari_units.specs.Options.{◌>>=◌}
use Rattle.jiff_core.specs.Calendar.{days_in_month, days_from_civil}

-- the day number of a year, month and day that the calendar has: days since 1 January 1970
abbrev pub existing_day : ℕ → ℕ → ℕ → Option ℤ
existing_day y m d = if nat_le 1 m && nat_le m 12 && nat_le 1 d && nat_le d (days_in_month (pos y) m) then Some (days_from_civil (pos y) m d) else None

-- the day number of a date that is written as `YYYY-MM-DD`, from the pairs of its digits
abbrev pub day_by : Option ℕ → Option ℕ → Option ℕ → Option ℕ → Option ℤ
day_by hundreds year month day = do
  h ← hundreds
  y ← year
  m ← month
  d ← day
  existing_day (100 * h + y) m d

-- the number that two digits write at a place of a text
abbrev pub number_at : List ℕ → ℕ → Option ℕ
number_at text i = two_digits (slice_index text i) (slice_index text (i + 1))

-- the day number of a text `YYYY-MM-DD`, if it names a day that the calendar has
abbrev pub day_in : List ℕ → Option ℤ
day_in text =
    if length text == 10 && slice_index text 4 == 45 && slice_index text 7 == 45
    then day_by (number_at text 0) (number_at text 2) (number_at text 5) (number_at text 8) else None
