-- The book of runs.
use Rattle.std.specs.Prelude.{◌≡◌, ◌≤◌, ◌<◌, ℕ, ◌+◌, ℤ, pos, negsuc, Bool, true, false, List, [], ◌∷◌, Option, Some, None, not, ◌&&◌, ◌||◌, nat_le, nat_lt, length, map, codes, fold, is_some, unwrap_or}
use Rattle.std.specs.List.{All, AllPairs}
use Rattle.mari_units.specs.Numbers.{price_of, whole_of}
use Rattle.mari_units.specs.Prices.{IsCapped}
use Rattle.mari_units.specs.declared.limits.TheConstants.{MOST_RUNS}
use Rattle.mari_units.specs.declared.numbers.Cents.{Cents}
use Rattle.mari_rows.specs.Books.{Checks, Grammar}
use Rattle.mari_rows.specs.Fields.{cents_in, is_first_of, number_in}
use Rattle.mari_rows.specs.Rows.{field_of}
use Rattle.mari_rows.specs.declared.rows.Row.{Row}
use Rattle.mari_demands.specs.RunChecks.{run_check_number}
use Rattle.mari_demands.specs.declared.runs.Run.{Run}
use Rattle.mari_demands.specs.declared.runs.RunBook.{RunBook}
use Rattle.mari_demands.specs.declared.runs.RunCheck.TheVariants.{BadField, Quarter, Range, RunsOutOfOrder, TooMany}

-- the words of a kind
unfoldable pub direct_word : List ℕ
direct_word = codes "direct"

unfoldable pub scheduled_word : List ℕ
scheduled_word = codes "scheduled"

-- whether a line's run is direct
abbrev pub is_direct : Row → Option Bool
is_direct row = is_first_of direct_word scheduled_word (field_of row 2)

-- a line's quarter, which is from 1 to `quarters`
abbrev pub quarter_in : ℕ → Row → Option ℕ
quarter_in quarters row = number_in 1 quarters (field_of row 1)

abbrev pub quarter_at : ℕ → Row → ℕ
quarter_at quarters row = unwrap_or (quarter_in quarters row) 0

-- a line's reference price
abbrev pub reference_in : Row → Option Cents
reference_in row = cents_in (field_of row 3)

-- whether a whole number is below another
abbrev pub is_number_below : ℕ → Option ℤ → Bool
is_number_below bound None = false
is_number_below bound (Some (pos n)) = nat_lt n bound
is_number_below bound (Some (negsuc n)) = true

-- the quarter of the last of these lines, if there is one
abbrev pub last_quarter : ℕ → List Row → Option ℕ
last_quarter quarters rows = fold (λ before row. Some (quarter_at quarters row)) None rows

-- a line's quarter is below that of the run before, or the line is scheduled in the same quarter
abbrev pub comes_too_late : Option ℕ → Row → Bool
comes_too_late None row = false
comes_too_late (Some quarter) row =
    is_number_below quarter (whole_of (field_of row 1)) || (not (unwrap_or (is_direct row) false) && is_some (number_in quarter quarter (field_of row 1)))

-- a line is refused after `MOST_RUNS` others, for a bad field, for a run out of order, for a quarter that the day
-- doesn't have, and for a reference price out of range
abbrev pub run_checks : ℕ → List Row → Row → Checks
run_checks quarters earlier row =
    (nat_le MOST_RUNS (length earlier), run_check_number TooMany)
    ∷ (
      not (is_some (whole_of (field_of row 0)) && is_some (whole_of (field_of row 1)) && is_some (price_of (field_of row 3)) && is_some (is_direct row)),
      run_check_number BadField,
    )
    ∷ (
      not (is_some (number_in (length earlier + 1) (length earlier + 1) (field_of row 0))) || comes_too_late (last_quarter quarters earlier) row,
      run_check_number RunsOutOfOrder,
    )
    ∷ (not (is_some (quarter_in quarters row)), run_check_number Quarter)
    ∷ (not (is_some (reference_in row)), run_check_number Range)
    ∷ []

-- the run of a line
abbrev pub run_of : ℕ → Row → Run
run_of quarters row = record {
  quarter = quarter_at quarters row;
  direct = unwrap_or (is_direct row) false;
  reference = unwrap_or (reference_in row) (record { 0 = pos 0 });
}

-- each line's run
abbrev pub run_book : ℕ → List Row → RunBook
run_book quarters rows = record { runs = map (run_of quarters) rows }

-- the columns of the file
unfoldable pub run_columns : List ℕ
run_columns = codes "run,quarter,kind,reference"

-- what makes a page a book of runs, on a day of `quarters` quarter hours
abbrev pub run_grammar : ℕ → Grammar RunBook
run_grammar quarters = record { columns = run_columns; line_checks = run_checks quarters; file_checks = λ rows. []; book = run_book quarters }

-- a run in a quarter from 1 to `quarters`, with its reference price in range
pub record IsRun (quarters : ℕ) (run : Run) : Type 0 where
  pub first_quarter : 1 ≤ run.quarter
  pub last_quarter : run.quarter ≤ quarters
  pub reference : IsCapped run.reference

-- a run before another: quarters don't fall, and a scheduled run has none before it in its quarter
pub record IsBefore (a b : Run) : Type 0 where
  pub quarter : a.quarter ≤ b.quarter
  pub scheduled : b.direct ≡ false → a.quarter < b.quarter

-- what holds of every book of runs that is read
pub record IsRunBook (quarters : ℕ) (book : RunBook) : Type 0 where
  pub few : length book.runs ≤ MOST_RUNS
  pub runs : All (IsRun quarters) book.runs
  pub in_order : AllPairs IsBefore book.runs
