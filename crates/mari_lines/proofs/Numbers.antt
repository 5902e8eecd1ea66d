-- A printed number is read as itself.
use Rattle.std.proofs.Common.{◌≡◌, ◌≤◌, ◌<◌, ℕ, ◌*◌, ◌-◌, ◌/◌, ◌^◌, min, Bool, List, ℤ, pos, negsuc, neg_ℤ, int_lt, ◌≤ℤ◌, ◌<ℤ◌, refl, sym, ap, ◌∙◌, arith}
use Rattle.std.proofs.lemmas.Int.{ints}
use Rattle.std.specs.Int.RustNames.{unsigned_abs}
use Rattle.std.specs.Fmt.{signed_decimal}
use Rattle.mari_units.specs.Numbers.{has_minus, with_sign, printed_cents, printed_euros}
use Rattle.mari_lines.specs.Reading.{digits_in, value_in}
use Rattle.mari_lines.proofs.Printed.{not_below, digits_in_signed, sign_in_signed, digits_in_cents, sign_in_cents, digits_in_euros, sign_in_euros}

-- a number is its size after its sign
signed : (z : ℤ) → with_sign (int_lt z (pos 0)) (unsigned_abs z) ≡ z
signed (pos n) = ap (λ (b : Bool). with_sign b n) (not_below n)
signed (negsuc n) = refl

value_is : (z : ℤ) (unit : ℕ) (text : List ℕ) → digits_in text ≡ unit * unsigned_abs z → has_minus text ≡ int_lt z (pos 0)
    → min (min (unit * unsigned_abs z) (2 ^ 128 - 1) / unit) (2 ^ 127 - 1) ≡ unsigned_abs z → value_in unit text ≡ z
value_is z unit text ed es small =
    ap (λ (b : Bool). with_sign b (min (min (digits_in text) (2 ^ 128 - 1) / unit) (2 ^ 127 - 1))) es
    ∙ ap (λ n. with_sign (int_lt z (pos 0)) (min (min n (2 ^ 128 - 1) / unit) (2 ^ 127 - 1))) ed
    ∙ ap (λ n. with_sign (int_lt z (pos 0)) n) small
    ∙ signed z

small_one : (n : ℕ) → n < 2 ^ 64 → min (min (1 * n) (2 ^ 128 - 1) / 1) (2 ^ 127 - 1) ≡ n
small_one n lt = omega arith

small_quarters : (n : ℕ) → n < 2 ^ 64 → min (min (25 * n) (2 ^ 128 - 1) / 25) (2 ^ 127 - 1) ≡ n
small_quarters n lt = omega arith

pub whole_is : (z : ℤ) (text : List ℕ) → unsigned_abs z < 2 ^ 64 → signed_decimal z ≡ text → value_in 1 text ≡ z
whole_is z text lt e = ap (value_in 1) (sym e) ∙ value_is z 1 (signed_decimal z) (digits_in_signed z lt ∙ omega arith) (sign_in_signed z lt) (small_one (unsigned_abs z) lt)

pub price_is : (z : ℤ) (text : List ℕ) → unsigned_abs z < 2 ^ 64 → printed_cents z ≡ text → value_in 1 text ≡ z
price_is z text lt e = ap (value_in 1) (sym e) ∙ value_is z 1 (printed_cents z) (digits_in_cents z lt ∙ omega arith) (sign_in_cents z lt) (small_one (unsigned_abs z) lt)

pub money_is : (z : ℤ) (text : List ℕ) → unsigned_abs z < 2 ^ 64 → printed_euros z ≡ text → value_in 25 text ≡ z
money_is z text lt e = let big : 25 * unsigned_abs z < 10 ^ 22 = omega arith in
    ap (value_in 25) (sym e) ∙ value_is z 25 (printed_euros z) (digits_in_euros z big) (sign_in_euros z big) (small_quarters (unsigned_abs z) lt)

-- numbers that are printed alike are the same
pub same_whole : (y z : ℤ) → unsigned_abs y < 2 ^ 64 → unsigned_abs z < 2 ^ 64 → signed_decimal y ≡ signed_decimal z → y ≡ z
same_whole y z ly lz e = sym (whole_is y (signed_decimal z) ly e) ∙ whole_is z (signed_decimal z) lz refl

pub same_price : (y z : ℤ) → unsigned_abs y < 2 ^ 64 → unsigned_abs z < 2 ^ 64 → printed_cents y ≡ printed_cents z → y ≡ z
same_price y z ly lz e = sym (price_is y (printed_cents z) ly e) ∙ price_is z (printed_cents z) lz refl

pub same_money : (y z : ℤ) → unsigned_abs y < 2 ^ 64 → unsigned_abs z < 2 ^ 64 → printed_euros y ≡ printed_euros z → y ≡ z
same_money y z ly lz e = sym (money_is y (printed_euros z) ly e) ∙ money_is z (printed_euros z) lz refl

-- a number between two that are small is small
pub size_between : (low high z : ℤ) → neg_ℤ (pos (2 ^ 63)) ≤ℤ low → high ≤ℤ pos (2 ^ 63) → low ≤ℤ z → z ≤ℤ high → unsigned_abs z < 2 ^ 64
size_between low high (pos n) l h a b = omega (arith, ints)
size_between low high (negsuc n) l h a b = omega (arith, ints)

pub size_of_within : (z : ℤ) (greatest : ℕ) → unsigned_abs z ≤ greatest → (neg_ℤ (pos greatest) ≤ℤ z) × (z ≤ℤ pos greatest)
size_of_within (pos n) greatest le = (omega (arith, ints), omega (arith, ints))
size_of_within (negsuc n) greatest le = (omega (arith, ints), omega (arith, ints))

-- what was read is the number, so it is not below the least, nor above the greatest, nor printed otherwise
pub not_below_least : (value least z : ℤ) → value ≡ z → value <ℤ least → least ≤ℤ z → ⊥
not_below_least value least z e lt le = let same : value ≡ z = e in omega (arith, ints)

pub not_above_greatest : (value greatest z : ℤ) → value ≡ z → greatest <ℤ value → z ≤ℤ greatest → ⊥
not_above_greatest value greatest z e lt le = let same : value ≡ z = e in omega (arith, ints)
