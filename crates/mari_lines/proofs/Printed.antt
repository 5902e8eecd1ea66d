-- The number that the digits of a printed number write, and its sign.
use Rattle.std.proofs.Common.{◌≡◌, ◌<◌, ℕ, suc, ◌+◌, ◌*◌, ◌-◌, ◌/◌, ◌%◌, ◌^◌, Bool, true, false, List, [], ◌∷◌, ◌++◌, fold, ℤ, pos, negsuc, int_lt, refl, sym, ap, ◌∙◌, arith}
use Rattle.std.specs.Char.{is_ascii_digit}
use Rattle.std.specs.Int.RustNames.{unsigned_abs}
use Rattle.std.specs.List.{list_all}
use Rattle.std.specs.Fmt.{decimal, signed_decimal}
use Rattle.std.proofs.lemmas.Bool.Decides.{nat_tests}
use Rattle.std.proofs.lemmas.List.{append-nil}
use Rattle.std.proofs.lemmas.Fmt.{digits_decimal, digits_value-decimal, decimal_nonempty}
use Rattle.mari_units.specs.Numbers.{has_minus, sign_of, printed_cents, printed_euros, printed_ten_thousandths}
use Rattle.mari_lines.specs.Reading.{with_byte, digits_in}
use Rattle.std.proofs.lemmas.Bool.{and_parts}
use Rattle.mari_units.proofs.Digits.{AreDigits, own, digit_byte, digits_unsigned}

abbrev value_from : ℕ → List ℕ → ℕ
value_from a ds = fold (λ n d. 10 * n + (d - 48)) a ds

only_digits : (a : ℕ) (ds : List ℕ) → AreDigits ds → fold with_byte a ds ≡ value_from a ds
only_digits a [] e = refl
only_digits a (d ∷ ds) e = let p = and_parts (is_ascii_digit d) (list_all is_ascii_digit ds) e in rw p.0 (only_digits (10 * a + (d - 48)) ds p.1)

from_append : (a : ℕ) (xs ys : List ℕ) → fold with_byte a (xs ++ ys) ≡ fold with_byte (fold with_byte a xs) ys
from_append a [] ys = refl
from_append a (x ∷ xs) ys = from_append (with_byte a x) xs ys

-- a printed whole number
pub digits_in_decimal : (n : ℕ) → n < 2 ^ 64 → digits_in (decimal n) ≡ n
digits_in_decimal n small = only_digits 0 (decimal n) (digits_decimal own n small) ∙ digits_value-decimal own n small

next_digit : (n x : ℕ) → x < 10 → with_byte n (48 + x) ≡ 10 * n + x
next_digit n x lt = rw (digit_byte x lt) (omega arith)

-- whole numbers and two digits after a point
pub digits_in_hundredths : (n : ℕ) → n < 2 ^ 64 → digits_in (decimal (n / 100) ++ 46 ∷ (48 + n % 100 / 10) ∷ (48 + n % 10) ∷ []) ≡ n
digits_in_hundredths n small =
    from_append 0 (decimal (n / 100)) _
    ∙ ap (λ a. with_byte (with_byte a (48 + n % 100 / 10)) (48 + n % 10)) (digits_in_decimal (n / 100) (omega arith))
    ∙ ap (λ a. with_byte a (48 + n % 10)) (next_digit (n / 100) (n % 100 / 10) (omega arith))
    ∙ next_digit (10 * (n / 100) + n % 100 / 10) (n % 10) (omega arith)
    ∙ omega arith

-- and four digits
pub digits_in_ten_thousandths : (n : ℕ) → n < 10 ^ 22 → digits_in (printed_ten_thousandths n) ≡ n
digits_in_ten_thousandths n small =
    let a1 = n % 10000 / 1000 in
    let a2 = n % 1000 / 100 in
    let a3 = n % 100 / 10 in
    let a4 = n % 10 in
    from_append 0 (decimal (n / 10000)) _
    ∙ ap (λ a. with_byte (with_byte (with_byte (with_byte a (48 + a1)) (48 + a2)) (48 + a3)) (48 + a4)) (digits_in_decimal (n / 10000) (omega arith))
    ∙ ap (λ a. with_byte (with_byte (with_byte a (48 + a2)) (48 + a3)) (48 + a4)) (next_digit (n / 10000) a1 (omega arith))
    ∙ ap (λ a. with_byte (with_byte a (48 + a3)) (48 + a4)) (next_digit (10 * (n / 10000) + a1) a2 (omega arith))
    ∙ ap (λ a. with_byte a (48 + a4)) (next_digit (10 * (10 * (n / 10000) + a1) + a2) a3 (omega arith))
    ∙ next_digit (10 * (10 * (10 * (n / 10000) + a1) + a2) + a3) a4 (omega arith)
    ∙ omega arith

-- no printed number without a sign begins with one
pub no_minus : (n : ℕ) (rest : List ℕ) → n < 2 ^ 64 → has_minus (decimal n ++ rest) ≡ false
no_minus n rest small = (digits_unsigned (decimal n) rest (digits_decimal own n small) (decimal_nonempty n small)).0

-- a whole number
pub digits_in_signed : (z : ℤ) → unsigned_abs z < 2 ^ 64 → digits_in (signed_decimal z) ≡ unsigned_abs z
digits_in_signed (pos n) small = digits_in_decimal n small
digits_in_signed (negsuc n) small = digits_in_decimal (suc n) small

pub not_below : (n : ℕ) → int_lt (pos n) (pos 0) ≡ false
not_below n = grind (arith, nat_tests)

pub sign_in_signed : (z : ℤ) → unsigned_abs z < 2 ^ 64 → has_minus (signed_decimal z) ≡ int_lt z (pos 0)
sign_in_signed (pos n) small = ap has_minus (sym (append-nil (decimal n))) ∙ no_minus n [] small ∙ sym (not_below n)
sign_in_signed (negsuc n) small = refl

-- after a sign
sign_first : (negative : Bool) (ds rest : List ℕ) → has_minus (ds ++ rest) ≡ false → has_minus (sign_of negative ++ ds ++ rest) ≡ negative
sign_first true ds rest e = refl
sign_first false ds rest e = e

digits_after : (negative : Bool) (ds rest : List ℕ) → digits_in (sign_of negative ++ ds ++ rest) ≡ digits_in (ds ++ rest)
digits_after true ds rest = refl
digits_after false ds rest = refl

pub digits_in_cents : (z : ℤ) → unsigned_abs z < 2 ^ 64 → digits_in (printed_cents z) ≡ unsigned_abs z
digits_in_cents z small = digits_after (int_lt z (pos 0)) (decimal (unsigned_abs z / 100)) _ ∙ digits_in_hundredths (unsigned_abs z) small

pub sign_in_cents : (z : ℤ) → unsigned_abs z < 2 ^ 64 → has_minus (printed_cents z) ≡ int_lt z (pos 0)
sign_in_cents z small = sign_first (int_lt z (pos 0)) (decimal (unsigned_abs z / 100)) _ (no_minus (unsigned_abs z / 100) _ (omega arith))

pub digits_in_euros : (z : ℤ) → 25 * unsigned_abs z < 10 ^ 22 → digits_in (printed_euros z) ≡ 25 * unsigned_abs z
digits_in_euros z small = plain (int_lt z (pos 0))
  where
    plain : (negative : Bool) → digits_in (sign_of negative ++ printed_ten_thousandths (25 * unsigned_abs z)) ≡ 25 * unsigned_abs z
    plain true = digits_in_ten_thousandths (25 * unsigned_abs z) small
    plain false = digits_in_ten_thousandths (25 * unsigned_abs z) small

pub sign_in_euros : (z : ℤ) → 25 * unsigned_abs z < 10 ^ 22 → has_minus (printed_euros z) ≡ int_lt z (pos 0)
sign_in_euros z small = plain (int_lt z (pos 0))
  where
    plain : (negative : Bool) → has_minus (sign_of negative ++ printed_ten_thousandths (25 * unsigned_abs z)) ≡ negative
    plain true = refl
    plain false = no_minus (25 * unsigned_abs z / 10000) _ (omega arith)
