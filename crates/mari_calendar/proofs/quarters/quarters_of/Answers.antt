use Rattle.std.proofs.Common.{◌≡◌, ◌∙◌, ◌-ℤ◌, ◌<ℤ◌, ℕ, List, Some, Ok, ℤ, pos, ◌+ℤ◌, FitsSigned, w64, refl, sym, arith}
use Rattle.jiff_core.specs.Date.{epoch_day}
use Rattle.jiff_tz.specs.PosixReader.{read_whole}
use Rattle.jiff_tz.specs.PosixText.{TzText, tz_view}
use Rattle.mari_calendar.specs.Dates.{day_in}
use Rattle.mari_calendar.specs.Midnights.{day_after, midnight_in, quarters_at, whole_quarters}
use Rattle.std.proofs.lemmas.Int.{to_z-of_z}
use Rattle.jiff_core.proofs.SignedLemmas.{signed_arith}
use Rattle.mari_calendar.proofs.quarters.quarters_of.Goals as goal

chain : (date rule : List ℕ) (day next begin end : ℤ) (tz : TzText)
    → day_in date ≡ Some day → read_whole rule ≡ Some tz → day_after day ≡ Ok next
    → midnight_in tz day ≡ Ok begin → midnight_in tz next ≡ Ok end
    → quarters_at date rule ≡ whole_quarters (end -ℤ begin)
unfolding quarters_at
chain date rule day next begin end tz a b d e f = rw (a, b, d, e, f) refl

next_is : (day next : ℤ) → day <ℤ pos 2932896 → next ≡ day +ℤ pos 1 → day_after day ≡ Ok next
next_is day next h e = grind (arith, signed_arith, e)

pub returns-clause-quarters : goal.returns-clause-quarters
returns-clause-quarters c =
    let before = c.in-Ok-tomorrow.ensures.succeeds.0 refl in
    let after = next_is _ _ before c.in-Ok-tomorrow.ensures.value in
    let begin_range = c.in_ok-begin.ensures.range in
    let end_range = c.in_ok-end.ensures.range in
    let f1 : FitsSigned w64 c.in_ok-begin.begin = omega (arith, signed_arith, begin_range.0, begin_range.1) in
    let f2 : FitsSigned w64 c.in_ok-end.end = omega (arith, signed_arith, end_range.0, end_range.1) in
    let f3 : FitsSigned w64 (c.in_ok-end.end -ℤ c.in_ok-begin.begin) = omega (arith, signed_arith, begin_range.0, begin_range.1, end_range.0, end_range.1) in
    let whole = simp to_z-of_z at c.whole.ensures.value in
    whole ∙ sym (chain c.args.date.now c.args.rule.now (epoch_day c.in-Some.date) (epoch_day c.in-Ok-tomorrow.next) c.in_ok-begin.begin c.in_ok-end.end (tz_view c.in-Ok.zone)
    (sym c.in-Some.ensures) c.in-Ok.ensures.value after (sym c.in_ok-begin.ensures.instant) (sym c.in_ok-end.ensures.instant))
