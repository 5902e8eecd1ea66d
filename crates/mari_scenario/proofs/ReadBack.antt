-- A printed number is read as itself.
use Rattle.std.proofs.Common.{◌≡◌, ◌≤◌, ◌<◌, ◌+◌, ◌*◌, ◌/◌, ◌%◌, ◌^◌, ◌==◌, ℕ, suc, Bool, true, false, List, [], ◌∷◌, ◌++◌, Some, None, ℤ, pos, negsuc, neg_ℤ, int_lt, unsigned_abs, decimal, length, position, refl, ap, arith, if◌then◌else◌}
use Rattle.std.specs.Prelude.{◌&&◌, nat_le, int_le}
use Rattle.std.specs.Char.{is_ascii_digit}
use Rattle.std.specs.Fmt.{signed_decimal}
use Rattle.std.specs.List.{list_all, list_any}
use Rattle.std.proofs.Math.Seq.{drop-append-add, take-append_seam}
use Rattle.std.proofs.lemmas.Bool.Decides.{nat_tests}
use Rattle.std.proofs.lemmas.Int.{ints}
use Rattle.std.proofs.lemmas.Fmt.{digits_decimal, decimal_nonempty}
use Rattle.mari_units.specs.Numbers.{cents_at, hundredths_of, price_of, printed_cents, whole_of}
use Rattle.std.proofs.lemmas.Bool.{and_parts}
use Rattle.mari_rows.specs.Fields.{cents_in, number_in, within_cap}
use Rattle.mari_rows.proofs.NameLemmas.{position-after}
use Rattle.mari_units.proofs.Digits.{AreDigits, own, digits_unsigned, decimal_natural, decimal_whole, digit_byte}

no-point : (d : ℕ) → is_ascii_digit d ≡ true → (d == 46) ≡ false
no-point d e = grind (arith, nat_tests)

-- a whole number with its sign
pub signed-whole : (z : ℤ) → unsigned_abs z < 2 ^ 64 → whole_of (signed_decimal z) ≡ Some z
signed-whole (pos n) small = decimal_whole n small
signed-whole (negsuc n) small = rw (decimal_natural (suc n) small) refl

-- a number above the greatest
pub decimal-above : (least greatest n : ℕ) → n < 2 ^ 64 → greatest < n → number_in least greatest (decimal n) ≡ None
decimal-above least greatest n small above =
    let b : nat_le n greatest ≡ false = grind (arith, nat_tests) in
    rw (decimal_whole n small, b) (by (nat_le least n))
  where
    by : (a : Bool) → (if a && false then Some n else None) ≡ None
    by true = refl
    by false = refl

-- the point after digits
no-points : (ds : List ℕ) → AreDigits ds → list_any (λ b. b == 46) ds ≡ false
no-points [] e = refl
no-points (d ∷ ds) e =
    let parts = and_parts (is_ascii_digit d) (list_all is_ascii_digit ds) e in
    rw (no-point d parts.0, no-points ds parts.1) refl

point-at : (ds rest : List ℕ) → AreDigits ds → position (λ b. b == 46) (ds ++ 46 ∷ rest) ≡ Some (length ds)
point-at ds rest e = position-after (λ b. b == 46) ds rest 46 (no-points ds e) refl

-- two digits of cents
two-digits : (a b : ℕ) → a < 10 → b < 10 → hundredths_of ((48 + a) ∷ (48 + b) ∷ []) ≡ Some (10 * a + b)
two-digits a b x y = rw (digit_byte a x, digit_byte b y) (ap Some (omega arith))

-- whole euros, a point and two digits
cents-after : (n : ℕ) → n < 2 ^ 64
    → cents_at (position (λ b. b == 46) (decimal (n / 100) ++ 46 ∷ (48 + n % 100 / 10) ∷ (48 + n % 10) ∷ [])) (decimal (n / 100) ++ 46 ∷ (48 + n % 100 / 10) ∷ (48 + n % 10) ∷ []) ≡ Some n
cents-after n small =
    let euros = decimal (n / 100) in
    let rest = (48 + n % 100 / 10) ∷ (48 + n % 10) ∷ [] in
    let digits = digits_decimal own (n / 100) (omega arith) in
    rw (
      point-at euros rest digits,
      take-append_seam euros (46 ∷ rest),
      drop-append-add euros (46 ∷ rest) 1,
      decimal_natural (n / 100) (omega arith),
      two-digits (n % 100 / 10) (n % 10) (omega arith) (omega arith),
    )
    (ap Some (omega arith))

-- a price
pub cents-price : (z : ℤ) → unsigned_abs z < 2 ^ 64 → price_of (printed_cents z) ≡ Some z
cents-price (pos n) small =
    let negative : int_lt (pos n) (pos 0) ≡ false = grind (arith, nat_tests) in
    let euros = decimal (n / 100) in
    let plain = digits_unsigned euros (46 ∷ (48 + n % 100 / 10) ∷ (48 + n % 10) ∷ []) (digits_decimal own (n / 100) (omega arith)) (decimal_nonempty (n / 100) (omega arith)) in
    rw (negative, plain.0, plain.1, cents-after n small) refl
cents-price (negsuc n) small = rw (cents-after (suc n) small) refl

pub cents-within : (z : ℤ) → unsigned_abs z ≤ 9999900 → cents_in (printed_cents z) ≡ Some (record { 0 = z })
cents-within z small = rw (cents-price z (omega arith)) (by z small)
  where
    by : (z : ℤ) → unsigned_abs z ≤ 9999900 → within_cap z ≡ Some (record { 0 = z })
    by z small =
        let low : int_le (neg_ℤ (pos 9999900)) z ≡ true = from z small in
        let high : int_le z (pos 9999900) ≡ true = to z small in
        rw (low, high) refl
      where
        from : (z : ℤ) → unsigned_abs z ≤ 9999900 → int_le (neg_ℤ (pos 9999900)) z ≡ true
        from (pos n) s = grind (arith, ints, nat_tests)
        from (negsuc n) s = grind (arith, ints, nat_tests)

        to : (z : ℤ) → unsigned_abs z ≤ 9999900 → int_le z (pos 9999900) ≡ true
        to (pos n) s = grind (arith, ints, nat_tests)
        to (negsuc n) s = grind (arith, ints, nat_tests)
