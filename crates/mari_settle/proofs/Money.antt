-- Products and halves of money, and how large they are.
use Rattle.std.proofs.Common.{◌≡◌, ℕ, ◌*◌, ◌<◌, ◌≤◌, ◌^◌, ℤ, pos, negsuc, ◌-ℤ◌, ◌*ℤ◌, arith, ap, w64, to_z, of_z, to_z-of_z}
use Rattle.std.proofs.Math.Nat.{mul-le-mul}
use Rattle.std.specs.Prelude.{FitsSigned, unsigned_abs}
use Rattle.std.proofs.lemmas.Int.{ints, unsigned_abs-mul, fits_signed_from_abs}
use Rattle.mari_settle.specs.Ledger.{half_of}

-- a product is as small as its factors allow
pub product_small : (a b r : ℤ) (m n : ℕ) → unsigned_abs a ≤ m → unsigned_abs b ≤ n → r ≡ a *ℤ b → unsigned_abs r ≤ m * n
product_small a b r m n h l e = omega (arith, ap unsigned_abs e, unsigned_abs-mul a b, mul-le-mul h l)

-- the same of a product as the code has its factors
pub product_fits : (a b r : ℤ) (m n : ℕ) → unsigned_abs a ≤ m → unsigned_abs b ≤ n → m < 2 ^ 63 → n < 2 ^ 63 → r ≡ to_z w64 (of_z w64 a) *ℤ to_z w64 (of_z w64 b) → unsigned_abs r ≤ m * n
product_fits a b r m n h l x y e =
    let f : FitsSigned w64 a = fits_signed_from_abs w64 a (omega arith) in
    let g : FitsSigned w64 b = fits_signed_from_abs w64 b (omega arith) in
    product_small a b r m n h l (rw (to_z-of_z f, to_z-of_z g) at e)

-- a half is no larger than the whole, nor is the rest
pub half_small : (r : ℤ) (m : ℕ) → unsigned_abs r ≤ m → (unsigned_abs (half_of r) ≤ m) × (unsigned_abs (r -ℤ half_of r) ≤ m)
half_small (pos a) m h = (omega (arith, ints), omega (arith, ints))
half_small (negsuc a) m h = (omega (arith, ints), omega (arith, ints))
