-- Printed prices and whole numbers stand in a page without quotes.
use Rattle.std.proofs.Common.{◌≡◌, ◌<◌, ◌^◌, ◌+◌, ◌/◌, ◌%◌, ℕ, suc, Bool, true, false, [], ◌∷◌, ◌++◌, ℤ, pos, negsuc, int_lt, unsigned_abs, decimal, refl, arith}
use Rattle.std.specs.Fmt.{signed_decimal}
use Rattle.mari_units.specs.Numbers.{printed_cents, sign_of}
use Rattle.mari_rows.proofs.PrintedLemmas.{is_plain_field, number-plain, plain-byte, plain-joined}

-- a point and two digits
cents-end : (a b : ℕ) → a < 10 → b < 10 → is_plain_field (46 ∷ (48 + a) ∷ (48 + b) ∷ []) ≡ true
cents-end a b x y = rw (plain-byte (48 + a) (omega arith) (omega (arith, x)), plain-byte (48 + b) (omega arith) (omega (arith, y))) refl

sign-plain : (negative : Bool) → is_plain_field (sign_of negative) ≡ true
sign-plain true = refl
sign-plain false = refl

-- a price
pub cents-plain : (z : ℤ) → unsigned_abs z < 2 ^ 64 → is_plain_field (printed_cents z) ≡ true
cents-plain z small =
    let n = unsigned_abs z in
    let end = 46 ∷ (48 + n % 100 / 10) ∷ (48 + n % 10) ∷ [] in
    let sign = sign_of (int_lt z (pos 0)) in
    plain-joined (sign ++ decimal (n / 100)) end (plain-joined sign (decimal (n / 100)) (sign-plain (int_lt z (pos 0))) (number-plain (n / 100) (omega arith)))
    (cents-end (n % 100 / 10) (n % 10) (omega arith) (omega arith))

-- a whole number
pub signed-plain : (z : ℤ) → unsigned_abs z < 2 ^ 64 → is_plain_field (signed_decimal z) ≡ true
signed-plain (pos n) small = number-plain n small
signed-plain (negsuc n) small = number-plain (suc n) small
