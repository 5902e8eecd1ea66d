-- The offset of a wall clock, as `jiff` gives it and as the definitions have it.
use Rattle.std.proofs.Common.{◌≡◌, ◌∙◌, Bool, true, false, not, cond, Option, Some, None, ℤ, pos, ◌-ℤ◌, ◌*ℤ◌, int_lt, refl, sym, ap, arith, option_map}
use Rattle.jiff_core.specs.declared.Offset.{Offset}
use Rattle.jiff_core.specs.declared.civil.datetime.DateTime.{DateTime}
use Rattle.jiff_core.specs.Date.{epoch_day}
use Rattle.jiff_core.specs.DateTime.{civil_nanos}
use Rattle.jiff_core.specs.Time.{time_nanos}
use Rattle.jiff_core.specs.Timestamp.{nanos_of_seconds}
use Rattle.jiff_tz.specs.declared.posix.Dst.{Dst}
use Rattle.jiff_tz.specs.declared.posix.DayTime.{DayTime}
use Rattle.jiff_tz.specs.declared.posix.TimeZone.{TimeZone}
use Rattle.jiff_tz.specs.declared.timezone.TimeZone.TheVariants.{Posix}
use Rattle.jiff_tz.specs.declared.ambiguous.AmbiguousOffset.TheVariants.{Unambiguous, Gap, Fold}
use Rattle.jiff_tz.specs.Ambiguous.{compatible_offset, instant_of}
use Rattle.jiff_tz.specs.PosixText.{day_time_view, dst_view, tz_view}
use Rattle.jiff_tz.specs.PosixRule.{ambiguous_ahead, ambiguous_at_by, ambiguous_behind, ambiguous_by, in_span, in_window, nanos_per_day, rule_nanos, saturating_add, saturating_sub, shift_between}
use Rattle.jiff_tz.specs.Zone.{ambiguous_at}
use Rattle.jiff_tz.specs.Year.{year_of_day}
use Rattle.jiff_tz.proofs.YearLemmas.{year_of_day-date}
use Rattle.jiff_core.proofs.SignedLemmas.{signed_arith}
use Rattle.mari_calendar.specs.Midnights.{midnight, moment_in, offset_ahead, offset_back, offset_by, offset_of}

minus_zero : (z : ℤ) → z -ℤ pos 0 ≡ z
minus_zero z = omega (arith, signed_arith)

-- when a rule's day and time come
moment : (y : ℤ) (d : DayTime) → rule_nanos y d (pos 0) ≡ moment_in y (day_time_view d)
unfolding rule_nanos
moment y d = rw (minus_zero d.time) refl

back_by : (inside folds gaps : Bool) (std dst : Offset)
    → (compatible_offset (cond inside (Unambiguous dst) (cond folds (Fold std dst) (cond gaps (Gap dst std) (Unambiguous std))))).seconds
    ≡ cond inside dst.seconds (cond folds std.seconds (cond gaps dst.seconds std.seconds))
back_by true folds gaps std dst = refl
back_by false true gaps std dst = refl
back_by false false true std dst = refl
back_by false false false std dst = refl

ahead_by : (inside gaps folds : Bool) (std dst : Offset)
    → (compatible_offset (cond (not inside) (Unambiguous std) (cond gaps (Gap std dst) (cond folds (Fold dst std) (Unambiguous dst))))).seconds
    ≡ cond (not inside) std.seconds (cond gaps std.seconds dst.seconds)
ahead_by false gaps folds std dst = refl
ahead_by true true folds std dst = refl
ahead_by true false true std dst = refl
ahead_by true false false std dst = refl

back : (std dst : Offset) (w : ℤ × ℤ) (at : ℤ) → (compatible_offset (ambiguous_behind std dst w at)).seconds ≡ offset_back std.seconds dst.seconds w at
back std dst w at = back_by (in_window w at) (in_span (saturating_add w.0 (shift_between std dst)) w.0 at) (in_span w.1 (saturating_sub w.1 (shift_between std dst)) at) std dst

ahead : (std dst : Offset) (w : ℤ × ℤ) (at : ℤ) → (compatible_offset (ambiguous_ahead std dst w at)).seconds ≡ offset_ahead std.seconds dst.seconds w at
ahead std dst w at = ahead_by (in_window w at) (in_span w.0 (saturating_add w.0 (shift_between std dst)) at) (in_span (saturating_sub w.1 (shift_between std dst)) w.1 at) std dst

by_order : (less more : Bool) (std dst : Offset) (w : ℤ × ℤ) (at : ℤ)
    → (compatible_offset (cond less (ambiguous_behind std dst w at) (cond more (ambiguous_ahead std dst w at) (Unambiguous std)))).seconds
    ≡ cond less (offset_back std.seconds dst.seconds w at) (cond more (offset_ahead std.seconds dst.seconds w at) std.seconds)
by_order true more std dst w at = back std dst w at
by_order false true std dst w at = ahead std dst w at
by_order false false std dst w at = refl

by : (std dst : Offset) (w : ℤ × ℤ) (at : ℤ) → (compatible_offset (ambiguous_by std dst w at)).seconds ≡ offset_by std.seconds dst.seconds w at
by std dst w at = by_order (int_lt dst.seconds std.seconds) (int_lt std.seconds dst.seconds) std dst w at

-- the offset of a civil time
offset_at : (std : Offset) (d : Option Dst) (dt : DateTime)
    → (compatible_offset (ambiguous_at_by std d dt)).seconds ≡ offset_of std.seconds (option_map dst_view d) dt.date.year (civil_nanos dt)
offset_at std None dt = refl
offset_at std (Some d) dt =
    by std d.offset (rule_nanos dt.date.year d.rule.start (pos 0), rule_nanos dt.date.year d.rule.end (pos 0)) (civil_nanos dt)
    ∙ ap (λ w. offset_by std.seconds d.offset.seconds w (civil_nanos dt))
    (ap (λ m. (m, rule_nanos dt.date.year d.rule.end (pos 0))) (moment dt.date.year d.rule.start)
    ∙ ap (λ m. (moment_in dt.date.year (day_time_view d.rule.start), m)) (moment dt.date.year d.rule.end))

-- the nanoseconds of a date's midnight
begins : (dt : DateTime) → time_nanos dt.time ≡ 0 → civil_nanos dt ≡ epoch_day dt.date *ℤ nanos_per_day
unfolding civil_nanos
begins dt h = omega (arith, signed_arith, h)

nanos : (day offset : ℤ) → day *ℤ nanos_per_day -ℤ nanos_of_seconds offset ≡ (day *ℤ pos 86400 -ℤ offset) *ℤ pos 1000000000
nanos day offset = omega (arith, signed_arith)

-- the instant of a date's midnight, in nanoseconds
pub instant : (tz : TimeZone) (dt : DateTime) → time_nanos dt.time ≡ 0
    → instant_of dt (compatible_offset (ambiguous_at (Posix tz) dt)) ≡ midnight (tz_view tz) (epoch_day dt.date) *ℤ pos 1000000000
unfolding ambiguous_at
instant tz dt h =
    let offset : (compatible_offset (ambiguous_at_by tz.std_offset tz.dst dt)).seconds
    ≡ offset_of tz.std_offset.seconds (option_map dst_view tz.dst) (year_of_day (epoch_day dt.date)) (epoch_day dt.date *ℤ nanos_per_day)
    = offset_at tz.std_offset tz.dst dt
    ∙ ap (λ y. offset_of tz.std_offset.seconds (option_map dst_view tz.dst) y (civil_nanos dt)) (sym (year_of_day-date dt.date))
    ∙ ap (offset_of tz.std_offset.seconds (option_map dst_view tz.dst) (year_of_day (epoch_day dt.date))) (begins dt h) in
    ap (λ n. n -ℤ nanos_of_seconds (compatible_offset (ambiguous_at_by tz.std_offset tz.dst dt)).seconds) (begins dt h)
    ∙ ap (λ s. epoch_day dt.date *ℤ nanos_per_day -ℤ nanos_of_seconds s) offset
    ∙ nanos (epoch_day dt.date) _
