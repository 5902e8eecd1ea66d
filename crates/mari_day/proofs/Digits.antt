-- A date that the calendar has is written in digits.
use Rattle.std.proofs.Common.{◌≡◌, ℕ, ◌+◌, ◌*◌, ◌-◌, Bool, true, false, List, [], ◌∷◌, Option, Some, None, Ok, length, arith, refl, if◌then◌else◌, ℤ}
use Rattle.std.specs.Prelude.{◌&&◌, ◌==◌, is_some, slice_index, Result}
use Rattle.std.specs.Char.{is_ascii_digit}
use Rattle.std.proofs.lemmas.Bool.{eqb-true, and_parts}
use Rattle.mari_units.specs.Numbers.{two_digits}
use Rattle.mari_units.proofs.Digits.{digit_name}
use Rattle.mari_calendar.specs.Dates.{day_by, day_in, number_at}
use Rattle.mari_calendar.specs.Midnights.{◌>>>◌, or_fault, quarters_at}
use Rattle.mari_calendar.specs.declared.quarters.CalendarFault.{CalendarFault}
use Rattle.mari_calendar.specs.declared.quarters.CalendarFault.TheVariants.{BadDate}
use Rattle.mari_lines.specs.Ranges.{IsDate}

-- a pair of digits that writes a number
abbrev AreDigits : (a b : ℕ) → Type 0
AreDigits a b = (is_ascii_digit a ≡ true) × (is_ascii_digit b ≡ true)

pair : (a b : ℕ) → is_some (two_digits a b) ≡ true → AreDigits a b
pair a b some = by (is_ascii_digit a) refl (is_ascii_digit b) refl some
  where
    by : (x : Bool) → is_ascii_digit a ≡ x → (y : Bool) → is_ascii_digit b ≡ y
        → is_some (if x && y then Some (10 * (a - 48) + (b - 48)) else None) ≡ true → AreDigits a b
    by true e true f s = (e, f)
    by true e false f s = cc s
    by false e y f s = cc s

-- each pair of digits of a date writes a number
all-pairs : (hundreds year month day : Option ℕ) (date : ℤ) → day_by hundreds year month day ≡ Some date
    → (is_some hundreds ≡ true) × (is_some year ≡ true) × (is_some month ≡ true) × (is_some day ≡ true)
all-pairs (Some h) (Some y) (Some m) (Some d) date e = (refl, refl, refl, refl)
all-pairs None y m d date e = cc e
all-pairs (Some h) None m d date e = cc e
all-pairs (Some h) (Some y) None d date e = cc e
all-pairs (Some h) (Some y) (Some m) None date e = cc e

-- ten bytes, of which the fifth and the eighth are hyphens and the others digits
ten : (a b c d e f g h i j : ℕ) → AreDigits a b → AreDigits c d → e ≡ 45 → AreDigits f g → h ≡ 45 → AreDigits i j
    → IsDate (a ∷ b ∷ c ∷ d ∷ e ∷ f ∷ g ∷ h ∷ i ∷ j ∷ [])
ten a b c d e f g h i j ab cd e45 fg h45 ij = (
  rw (digit_name a ab.0, digit_name b ab.1, digit_name c cd.0, digit_name d cd.1, e45, digit_name f fg.0, digit_name g fg.1, h45, digit_name i ij.0, digit_name j ij.1) refl,
  rw (ab.0, ab.1, cd.0, cd.1, e45, fg.0, fg.1, h45, ij.0, ij.1) refl,
)

-- a text that names a day is such a date
by-parts : (text : List ℕ) → length text ≡ 10 → slice_index text 4 ≡ 45 → slice_index text 7 ≡ 45
    → (is_some (number_at text 0) ≡ true) × (is_some (number_at text 2) ≡ true) × (is_some (number_at text 5) ≡ true) × (is_some (number_at text 8) ≡ true) → IsDate text
by-parts [] l first second pairs = absurd (omega (arith, l))
by-parts (a ∷ []) l first second pairs = absurd (omega (arith, l))
by-parts (a ∷ b ∷ []) l first second pairs = absurd (omega (arith, l))
by-parts (a ∷ b ∷ c ∷ []) l first second pairs = absurd (omega (arith, l))
by-parts (a ∷ b ∷ c ∷ d ∷ []) l first second pairs = absurd (omega (arith, l))
by-parts (a ∷ b ∷ c ∷ d ∷ e ∷ []) l first second pairs = absurd (omega (arith, l))
by-parts (a ∷ b ∷ c ∷ d ∷ e ∷ f ∷ []) l first second pairs = absurd (omega (arith, l))
by-parts (a ∷ b ∷ c ∷ d ∷ e ∷ f ∷ g ∷ []) l first second pairs = absurd (omega (arith, l))
by-parts (a ∷ b ∷ c ∷ d ∷ e ∷ f ∷ g ∷ h ∷ []) l first second pairs = absurd (omega (arith, l))
by-parts (a ∷ b ∷ c ∷ d ∷ e ∷ f ∷ g ∷ h ∷ i ∷ []) l first second pairs = absurd (omega (arith, l))
by-parts (a ∷ b ∷ c ∷ d ∷ e ∷ f ∷ g ∷ h ∷ i ∷ j ∷ []) l first second pairs =
    ten a b c d e f g h i j (pair a b pairs.0) (pair c d pairs.1) first (pair f g pairs.2) second (pair i j pairs.3)
by-parts (a ∷ b ∷ c ∷ d ∷ e ∷ f ∷ g ∷ h ∷ i ∷ j ∷ k ∷ more) l first second pairs = absurd (omega (arith, l))

named-day : (text : List ℕ) (date : ℤ) → day_in text ≡ Some date → IsDate text
named-day text date is =
    let kept = is_tested (length text == 10 && slice_index text 4 == 45 && slice_index text 7 == 45) _ date is in
    let second = and_parts (length text == 10 && slice_index text 4 == 45) (slice_index text 7 == 45) kept.0 in
    let first = and_parts (length text == 10) (slice_index text 4 == 45) second.0 in
    by-parts text (eqb-true (length text) 10 first.0) (eqb-true (slice_index text 4) 45 first.1) (eqb-true (slice_index text 7) 45 second.1)
    (all-pairs (number_at text 0) (number_at text 2) (number_at text 5) (number_at text 8) date kept.1)
  where
    is_tested : (b : Bool) (o : Option ℤ) (date : ℤ) → (if b then o else None) ≡ Some date → (b ≡ true) × (o ≡ Some date)
    is_tested true o date e = (refl, e)
    is_tested false o date e = cc e

-- a day whose date is read has one
from-day : (o : Option ℤ) (rest : ℤ → Result ℕ CalendarFault) (quarters : ℕ) → (or_fault BadDate o >>> rest) ≡ Ok quarters → (day : ℤ) × (o ≡ Some day)
from-day (Some day) rest quarters e = (day, refl)
from-day None rest quarters e = cc e

-- so is a date that has quarter hours
pub quarters-date : (date rule : List ℕ) (quarters : ℕ) → quarters_at date rule ≡ Ok quarters → IsDate date
unfolding quarters_at
quarters-date date rule quarters is = let there = from-day (day_in date) _ quarters is in named-day date there.0 there.1
