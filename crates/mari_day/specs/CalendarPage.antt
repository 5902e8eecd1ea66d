-- The day that day.csv states.
use Rattle.std.specs.Prelude.{ℕ, List, [], ◌∷◌, Result, Ok, Err}
use Rattle.mari_rows.specs.Books.{refusal_of}
use Rattle.mari_rows.specs.Checks.{refusal_at}
use Rattle.mari_rows.specs.Rows.{field_of, rows_in}
use Rattle.mari_rows.specs.declared.checks.LineFault.{LineFault}
use Rattle.mari_rows.specs.declared.checks.LineFault.TheVariants.{Fails, Memory}
use Rattle.mari_rows.specs.declared.faults.BookFault.{BookFault}
use Rattle.mari_rows.specs.declared.faults.RowFault.{RowFault}
use Rattle.mari_rows.specs.declared.rows.Row.{Row}
use Rattle.mari_calendar.specs.Columns.{day_columns}
use Rattle.mari_calendar.specs.Midnights.{quarters_at}
use Rattle.mari_calendar.specs.declared.quarters.CalendarFault.{CalendarFault}
use Rattle.mari_calendar.specs.declared.quarters.CalendarFault.TheVariants as calendar
use Rattle.mari_day.specs.DateChecks.{date_check_number}
use Rattle.mari_day.specs.Dated.{IsDatedBy}
use Rattle.mari_day.specs.declared.calendar_page.CalendarDay.{CalendarDay}
use Rattle.mari_day.specs.declared.calendar_page.DateCheck.{DateCheck}
use Rattle.mari_day.specs.declared.calendar_page.DateCheck.TheVariants.{BadDate, BadZoneText, NotOneRecord, NotWholeQuarters, OutOfRange}

-- the check that a fault of the calendar fails
abbrev pub check_of : CalendarFault → LineFault DateCheck
check_of calendar.BadDate = Fails BadDate
check_of calendar.BadZoneText = Fails BadZoneText
check_of calendar.OutOfRange = Fails OutOfRange
check_of calendar.NotWholeQuarters = Fails NotWholeQuarters
check_of calendar.Memory = Memory

-- the day of a record whose date has `quarters` quarter hours, or its refusal
abbrev pub day_by : Row → Result ℕ CalendarFault → Result CalendarDay BookFault
day_by row (Ok quarters) = Ok (record { date = field_of row 0; quarters = quarters })
day_by row (Err fault) = Err (refusal_at date_check_number (check_of fault) row.line)

-- the day of a record: its date, and the quarter hours that this has by the rule of a clock
abbrev pub day_of_row : Row → Result CalendarDay BookFault
day_of_row row = day_by row (quarters_at (field_of row 0) (field_of row 1))

-- the refusal of a page that hasn't exactly one record
abbrev pub not_one : (line : ℕ) → BookFault
not_one line = refusal_at date_check_number (Fails NotOneRecord) line

-- the day of these records, of which there is to be exactly one
abbrev pub day_of_rows : List Row → Result CalendarDay BookFault
day_of_rows [] = Err (not_one 1)
day_of_rows (row ∷ []) = day_of_row row
day_of_rows (row ∷ second ∷ more) = Err (not_one second.line)

-- the day of the rows that were read
abbrev pub day_of_read : Result (List Row) RowFault → Result CalendarDay BookFault
day_of_read (Ok rows) = day_of_rows rows
day_of_read (Err fault) = Err (refusal_of fault)

-- the day of a page, or its first refusal
abbrev pub calendar_day_in : List ℕ → Result CalendarDay BookFault
calendar_day_in page = day_of_read (rows_in day_columns page)

-- what holds of every day that is read: a date in digits, and 1 to `MOST_QUARTERS` quarter hours
abbrev pub IsCalendarDay : CalendarDay → Type 0
IsCalendarDay day = IsDatedBy day.date day.quarters
