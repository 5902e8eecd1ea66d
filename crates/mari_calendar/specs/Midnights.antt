-- The quarter hours between two midnights, by the rule of a zone's clock.
use Rattle.std.specs.Prelude.{ℕ, ◌*◌, ◌/◌, ◌%◌, Bool, not, ◌&&◌, List, Option, Some, None, Result, Ok, Err, ◌==◌, if◌then◌else◌, ℤ, pos, neg_ℤ, ◌+ℤ◌, ◌-ℤ◌, ◌*ℤ◌, int_le, int_lt, unsigned_abs}
use Rattle.jiff_core.specs.Timestamp.{nanos_of_seconds}
use Rattle.jiff_tz.specs.declared.posix.Day.{Day}
use Rattle.jiff_tz.specs.PosixReader.{read_whole}
use Rattle.jiff_tz.specs.PosixText.{DstText, TzText}
use Rattle.jiff_tz.specs.PosixRule.{clamp_to, first_nanosecond, in_span, in_window, last_nanosecond, match_some, nanos_per_day, rule_day, saturating_add, saturating_sub}
use Rattle.jiff_tz.specs.Year.{year_of_day}
use Rattle.mari_units.specs.declared.limits.TheConstants.{MOST_QUARTERS}
use Rattle.mari_calendar.specs.declared.quarters.CalendarFault.{CalendarFault}
use Rattle.mari_calendar.specs.declared.quarters.CalendarFault.TheVariants.{BadDate, BadZoneText, OutOfRange, NotWholeQuarters}
use Rattle.mari_calendar.specs.Dates.{day_in}

infixl 10 ◌>>>◌
abbrev pub ◌>>>◌ : {A B E : Type 0} → Result A E → (A → Result B E) → Result B E
(Ok x) >>> f = f x
(Err e) >>> f = Err e

-- the value, or this fault
abbrev pub or_fault : {A E : Type 0} → E → Option A → Result A E
or_fault e None = Err e
or_fault e (Some x) = Ok x

-- when a rule's day and time come in a year, in nanoseconds on the wall clock
abbrev pub moment_in : ℤ → Day × ℤ → ℤ
moment_in y d = match_some (rule_day y d.0) (last_nanosecond y) (λ day.
    clamp_to (first_nanosecond y) (last_nanosecond y) (day *ℤ nanos_per_day +ℤ nanos_of_seconds d.1))

-- how far summer time is ahead of standard time, in nanoseconds
abbrev pub shift_of : ℤ → ℤ → ℤ
shift_of std summer = nanos_of_seconds summer -ℤ nanos_of_seconds std

-- how many seconds a wall clock is ahead of UTC when it shows a moment, where its summer time is less than its standard
-- time; what it skips or shows twice counts by the offset before the change
abbrev pub offset_back : (std summer : ℤ) → ℤ × ℤ → ℤ → ℤ
offset_back std summer w at =
    if in_window w at then summer
    else (if in_span (saturating_add w.0 (shift_of std summer)) w.0 at then std
    else (if in_span w.1 (saturating_sub w.1 (shift_of std summer)) at then summer
    else std))

-- the same, where its summer time is more
abbrev pub offset_ahead : (std summer : ℤ) → ℤ × ℤ → ℤ → ℤ
offset_ahead std summer w at =
    if not (in_window w at) then std
    else (if in_span w.0 (saturating_add w.0 (shift_of std summer)) at then std
    else summer)

-- the same, of any summer time, whose first and last moment are `w`
abbrev pub offset_by : (std summer : ℤ) → ℤ × ℤ → ℤ → ℤ
offset_by std summer w at =
    if int_lt summer std then offset_back std summer w at
    else (if int_lt std summer then offset_ahead std summer w at else std)

-- how many seconds a clock of this standard time and summer time is ahead of UTC when it shows a moment of this year
abbrev pub offset_of : ℤ → Option DstText → (year at : ℤ) → ℤ
offset_of std None year at = std
offset_of std (Some d) year at = offset_by std d.seconds (moment_in year d.start, moment_in year d.finish) at

-- the instant at which a day begins in a zone, in seconds since 1970 began in UTC
abbrev pub midnight : TzText → ℤ → ℤ
midnight tz day = day *ℤ pos 86400 -ℤ offset_of tz.std_seconds tz.dst (year_of_day day) (day *ℤ nanos_per_day)

-- the instants that `jiff` has
abbrev pub is_instant : ℤ → Bool
is_instant s = int_le (neg_ℤ (pos 377705023201)) s && int_le s (pos 253402207200)

-- such a midnight
abbrev pub midnight_in : TzText → ℤ → Result ℤ CalendarFault
midnight_in tz day = if is_instant (midnight tz day) then Ok (midnight tz day) else Err OutOfRange

-- the day after a day; the last that `jiff` has is 31 December 9999
abbrev pub day_after : ℤ → Result ℤ CalendarFault
day_after day = if int_lt day (pos 2932896) then Ok (day +ℤ pos 1) else Err OutOfRange

-- the number of quarter hours in z seconds, from 1 to `MOST_QUARTERS`
abbrev pub whole_quarters : ℤ → Result ℕ CalendarFault
whole_quarters z =
    if int_le (pos 900) z && int_le z (pos (900 * MOST_QUARTERS)) && unsigned_abs z % 900 == 0 then Ok (unsigned_abs z / 900) else Err NotWholeQuarters

-- the quarter hours from a day's midnight to the next one
abbrev pub quarters_on : TzText → ℤ → Result ℕ CalendarFault
quarters_on tz day =
    day_after day >>> λ next.
    midnight_in tz day >>> λ begin.
    midnight_in tz next >>> λ end.
    whole_quarters (end -ℤ begin)

-- the quarter hours of a date in the zone of a rule, or the first cause for which there are none
unfoldable pub quarters_at : (date rule : List ℕ) → Result ℕ CalendarFault
quarters_at date rule =
    or_fault BadDate (day_in date) >>> λ day.
    or_fault BadZoneText (read_whole rule) >>> λ tz.
    quarters_on tz day
