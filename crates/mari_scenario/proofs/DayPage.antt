-- The page of the day has one record, and its day has 96 quarter hours.
use Rattle.std.proofs.Common.{◌≡◌, [], ◌∷◌, Ok, refl}
use lib.Utf8.{encode}
use Rattle.std.specs.Str.{chars, is_utf8}
use Rattle.csv.specs.Machine.{next_record}
use Rattle.csv.specs.Reading.{records_from, strip_bom}
use Rattle.jiff_core.specs.Calendar.{day_count, days_from_civil, days_of_months, days_of_years}
use Rattle.jiff_tz.specs.PosixReader.{read_abbreviation, read_digit, read_minutes, read_offset, read_sign, read_tz, read_unquoted, read_up_to_two, read_whole}
use Rattle.mari_calendar.specs.Columns.{day_columns}
use Rattle.mari_calendar.specs.Midnights.{quarters_at}
use Rattle.mari_rows.specs.Rows.{rows_in}
use Rattle.mari_scenario.specs.Pages.{date_text, day_text, rule_text}

pub day-read : rows_in day_columns day_text ≡ Ok (record { line = 2; fields = date_text ∷ rule_text ∷ [] } ∷ [])
unfolding day_columns next_record records_from strip_bom is_utf8 chars encode
day-read = refl

pub quarters-read : quarters_at date_text rule_text ≡ Ok 96
unfolding quarters_at read_whole read_tz read_abbreviation read_unquoted read_offset read_up_to_two read_digit read_sign read_minutes days_from_civil day_count days_of_years days_of_months
quarters-read = refl
