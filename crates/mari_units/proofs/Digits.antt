-- A printed whole number is read as itself.
use Rattle.std.proofs.Common.{◌≡◌, ◌<◌, ◌≤◌, ◌+◌, ◌-◌, ◌*◌, ◌/◌, ◌%◌, ◌^◌, ◌∙◌, ◌==◌, ℕ, true, false, List, [], ◌∷◌, ◌++◌, Some, pos, decimal, length, refl, sym, ap, arith, rules}
use Rattle.std.specs.Prelude.{fold}
use Rattle.std.specs.Char.{is_ascii_digit}
use Rattle.std.specs.List.{list_all}
use Rattle.std.proofs.lemmas.Bool.{and_parts}
use Rattle.std.proofs.lemmas.Bool.Decides.{nat_tests}
use Rattle.std.proofs.lemmas.Fmt.{digits_decimal, digits_value-decimal, decimal_digit, decimal_nonempty, decimal_step}
use Rattle.std.proofs.lemmas.Str.Parse.{IsNumeralModel, numerals_by_fold}
use Rattle.mari_units.specs.Names.{is_name_byte}
use Rattle.mari_units.specs.Numbers.{has_minus, natural_of, value_of_digits, whole_of, without_minus}

-- digits, and the number that they write
abbrev pub AreDigits : List ℕ → Type 0
AreDigits ds = list_all is_ascii_digit ds ≡ true

abbrev value_from : ℕ → List ℕ → ℕ
value_from a ds = fold (λ n d. 10 * n + (d - 48)) a ds

pub own : IsNumeralModel AreDigits value_of_digits
own = numerals_by_fold AreDigits (search rules) value_from (search rules)

no_minus : (d : ℕ) → is_ascii_digit d ≡ true → (d == 45) ≡ false
no_minus d e = grind (arith, nat_tests)

-- digits, whatever stands after them
pub digits_unsigned : (ds rest : List ℕ) → AreDigits ds → 0 < length ds → (has_minus (ds ++ rest) ≡ false) × (without_minus (ds ++ rest) ≡ ds ++ rest)
digits_unsigned [] rest e some = absurd (omega arith)
digits_unsigned (d ∷ ds) rest e some = let n = no_minus d ((and_parts (is_ascii_digit d) (list_all is_ascii_digit ds) e).0) in (n, rw n refl)

digits_natural : (ds : List ℕ) → AreDigits ds → 0 < length ds → natural_of ds ≡ Some (value_of_digits ds)
digits_natural [] e some = absurd (omega arith)
digits_natural (d ∷ ds) e some = rw e refl

pub decimal_natural : (n : ℕ) → n < 2 ^ 64 → natural_of (decimal n) ≡ Some n
decimal_natural n small = digits_natural (decimal n) (digits_decimal own n small) (decimal_nonempty n small) ∙ ap Some (digits_value-decimal own n small)

-- a whole number
pub decimal_whole : (n : ℕ) → n < 2 ^ 64 → whole_of (decimal n) ≡ Some (pos n)
decimal_whole n small = by (decimal n) (digits_decimal own n small) (decimal_nonempty n small) (decimal_natural n small)
  where
    by : (ds : List ℕ) → AreDigits ds → 0 < length ds → natural_of ds ≡ Some n → whole_of ds ≡ Some (pos n)
    by [] e some is = absurd (omega arith)
    by (d ∷ ds) e some is = let m = no_minus d ((and_parts (is_ascii_digit d) (list_all is_ascii_digit ds) e).0) in rw (m, is) refl

-- the byte of a number below 10 is a digit
pub digit_byte : (x : ℕ) → x < 10 → is_ascii_digit (48 + x) ≡ true
digit_byte x lt = grind (arith, nat_tests)

-- a digit may stand in a name
pub digit_name : (d : ℕ) → is_ascii_digit d ≡ true → is_name_byte d ≡ true
digit_name d e = rw e refl

-- numbers of one to four digits, digit by digit
pub one_digit : (n : ℕ) → n < 10 → decimal n ≡ (48 + n % 10) ∷ []
one_digit n lt = let same : n % 10 ≡ n = omega arith in rw same (decimal_digit n lt)

pub two_digits : (n : ℕ) → 10 ≤ n → n < 100 → decimal n ≡ (48 + n / 10 % 10) ∷ (48 + n % 10) ∷ []
two_digits n ge lt = decimal_step n ge (omega arith) ∙ ap (λ ds. ds ++ (48 + n % 10) ∷ []) (one_digit (n / 10) (omega arith))

pub three_digits : (n : ℕ) → 100 ≤ n → n < 1000 → decimal n ≡ (48 + n / 100 % 10) ∷ (48 + n / 10 % 10) ∷ (48 + n % 10) ∷ []
three_digits n ge lt =
    let hundreds : n / 10 / 10 ≡ n / 100 = omega arith in
    let front : decimal (n / 10) ≡ (48 + n / 100 % 10) ∷ (48 + n / 10 % 10) ∷ [] = rw (sym hundreds) (two_digits (n / 10) (omega arith) (omega arith)) in
    decimal_step n (omega arith) (omega arith) ∙ ap (λ ds. ds ++ (48 + n % 10) ∷ []) front

pub four_digits : (n : ℕ) → 1000 ≤ n → n < 10000 → decimal n ≡ (48 + n / 1000) ∷ (48 + n / 100 % 10) ∷ (48 + n / 10 % 10) ∷ (48 + n % 10) ∷ []
four_digits n ge lt =
    let thousands : n / 10 / 100 % 10 ≡ n / 1000 = omega arith in
    let hundreds : n / 10 / 10 ≡ n / 100 = omega arith in
    let front : decimal (n / 10) ≡ (48 + n / 1000) ∷ (48 + n / 100 % 10) ∷ (48 + n / 10 % 10) ∷ [] =
    rw (sym thousands, sym hundreds) (three_digits (n / 10) (omega arith) (omega arith)) in
    decimal_step n (omega arith) (omega arith) ∙ ap (λ ds. ds ++ (48 + n % 10) ∷ []) front
