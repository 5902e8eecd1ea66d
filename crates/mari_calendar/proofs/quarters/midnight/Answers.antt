use Rattle.std.proofs.Common.{◌≡◌, ◌∙◌, neg_ℤ, pos, Bool, true, false, ℤ, ◌*ℤ◌, Ok, Err, int_le, FitsSigned, w64, subst, refl, sym, ap, arith}
use Rattle.std.specs.Int.{int_div_euclid}
use Rattle.jiff_core.specs.Timestamp.{IsTimestampNanos}
use Rattle.jiff_core.specs.Date.{epoch_day}
use Rattle.jiff_tz.specs.PosixText.{TzText, tz_view}
use Rattle.std.proofs.lemmas.Int.{to_z-of_z}
use Rattle.jiff_core.proofs.SignedLemmas.{signed_arith}
use Rattle.mari_calendar.specs.declared.quarters.CalendarFault.TheVariants.{OutOfRange}
use Rattle.mari_calendar.specs.Midnights.{is_instant, midnight, midnight_in}
use Rattle.mari_calendar.proofs.Offsets.{instant}
use Rattle.mari_calendar.proofs.quarters.midnight.Goals as goal

seconds_of : (n s : ℤ) → n ≡ s *ℤ pos 1000000000 → int_div_euclid n (pos 1000000000) ≡ s
seconds_of n s e = omega (arith, signed_arith, e)

is_one : (s : ℤ) → IsTimestampNanos (s *ℤ pos 1000000000) → is_instant s ≡ true
is_one s h = let low = h.0 in let high = h.1 in grind (arith, signed_arith)

is_none : (s : ℤ) → (IsTimestampNanos (s *ℤ pos 1000000000) → ⊥) → is_instant s ≡ false
is_none s h = go (int_le (neg_ℤ (pos 377705023201)) s) (int_le s (pos 253402207200)) refl refl
  where
    go : (a b : Bool) → int_le (neg_ℤ (pos 377705023201)) s ≡ a → int_le s (pos 253402207200) ≡ b → is_instant s ≡ false
    go true true e f = absurd (h (omega (arith, signed_arith, e, f), omega (arith, signed_arith, e, f)))
    go true false e f = rw (e, f) refl
    go false b e f = rw e refl

ok_where : (tz : TzText) (day : ℤ) → is_instant (midnight tz day) ≡ true → Ok (midnight tz day) ≡ midnight_in tz day
ok_where tz day e = rw e refl

err_where : (tz : TzText) (day : ℤ) → is_instant (midnight tz day) ≡ false → Err OutOfRange ≡ midnight_in tz day
err_where tz day e = rw e refl

pub returns-in-Ok-clause-instant : goal.returns-in-Ok-clause-instant
returns-in-Ok-clause-instant c =
    let s : ℤ = midnight (tz_view c.args.zone) (epoch_day c.args.date) in
    let value : c.in-Ok.instant.nanosecond ≡ s *ℤ pos 1000000000 = c.in-Ok.ensures.value ∙ instant c.args.zone _ refl in
    let seconds : c.floor_second.result ≡ s = c.floor_second.ensures ∙ seconds_of _ s value in
    let range : IsTimestampNanos (s *ℤ pos 1000000000) = rw (← value) c.in-Ok.instant.in_range in
    let fits : FitsSigned w64 c.floor_second.result = omega (arith, signed_arith, seconds, range) in
    simp to_z-of_z (ap Ok seconds ∙ ok_where (tz_view c.args.zone) (epoch_day c.args.date) (is_one s range))

pub returns-in-Err-clause-instant : goal.returns-in-Err-clause-instant
returns-in-Err-clause-instant c =
    let s : ℤ = midnight (tz_view c.args.zone) (epoch_day c.args.date) in
    let no : (IsTimestampNanos (s *ℤ pos 1000000000) → ⊥) = λ t. let ok = c.in-Err.ensures.succeeds.1 (subst IsTimestampNanos (sym (instant c.args.zone _ refl)) t) in cc in
    err_where (tz_view c.args.zone) (epoch_day c.args.date) (is_none s no)
