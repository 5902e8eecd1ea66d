-- Products and sums of 64 bits fit 128.
use Rattle.std.proofs.Common.{◌≡◌, ℕ, ◌*◌, ◌^◌, ◌≤◌, ℤ, pos, negsuc, ◌*ℤ◌, arith, lit<, w64, w32, Fits, to_z, of_z, to_z-of_z, ◌∙◌, suc, neg_ℤ, ◌≤ℤ◌}
use Rattle.std.proofs.Math.Nat.{mul-le-mul}
use Rattle.std.specs.Int.{w128}
use Rattle.std.specs.Prelude.{FitsSigned, unsigned_abs}
use Rattle.std.proofs.lemmas.Int.{ints, fits_signed_mul, unsigned_abs-mul}

small_abs : (a : ℤ) → FitsSigned w64 a → unsigned_abs a ≤ 2 ^ 63
small_abs a f = omega (arith, ints)

pub wide : (a b : ℤ) → FitsSigned w64 a → FitsSigned w64 b → FitsSigned w128 (a *ℤ b)
wide a b f g = fits_signed_mul w128 a b (2 ^ 63) (2 ^ 63) (small_abs a f) (small_abs b g) (lit< tt)

-- as the code has the two numbers
pub wide_bits : (a b x y : ℤ) → FitsSigned w64 a → FitsSigned w64 b → x ≡ to_z w64 (of_z w64 a) → y ≡ to_z w64 (of_z w64 b) → FitsSigned w128 (to_z w128 (of_z w128 x) *ℤ to_z w128 (of_z w128 y))
wide_bits a b x y f g e h =
    let k : x ≡ a = e ∙ to_z-of_z f in
    let l : y ≡ b = h ∙ to_z-of_z g in
    let m : FitsSigned w128 x = omega (arith, ints) in
    let n : FitsSigned w128 y = omega (arith, ints) in
    rw (to_z-of_z m, to_z-of_z n, k, l) (wide a b f g)

mul_small : (k q m n : ℕ) → k ≤ m → q ≤ n → k * q ≤ m * n
mul_small k q m n h l = mul-le-mul h l

-- a product within bounds of its factors
pub scaled : (k : ℤ) (q m n : ℕ) → neg_ℤ (pos m) ≤ℤ k → k ≤ℤ pos m → q ≤ n → (neg_ℤ (pos (m * n)) ≤ℤ (k *ℤ pos q)) × ((k *ℤ pos q) ≤ℤ pos (m * n))
scaled (pos k) q m n l h b = let e : k ≤ m = omega (arith, ints) in (omega (arith, ints, mul_small k q m n e b), omega (arith, ints, mul_small k q m n e b))
scaled (negsuc k) q m n l h b = let e : suc k ≤ m = omega (arith, ints) in (omega (arith, ints, mul_small (suc k) q m n e b), omega (arith, ints, mul_small (suc k) q m n e b))

-- a product with a factor of 64 bits
pub worth_small : (price mw : ℤ) → FitsSigned w64 price → unsigned_abs (price *ℤ mw) ≤ 2 ^ 63 * unsigned_abs mw
worth_small price mw f = omega (arith, unsigned_abs-mul price mw, mul_small (unsigned_abs price) (unsigned_abs mw) (2 ^ 63) (unsigned_abs mw) (small_abs price f) (omega arith))

-- the same as the code has the two numbers
pub worth_bits : (a b x y : ℤ) → FitsSigned w64 a → FitsSigned w64 b → x ≡ to_z w64 (of_z w64 a)
    → y ≡ to_z w64 (of_z w64 b)
    → unsigned_abs (to_z w128 (of_z w128 (to_z w128 (of_z w128 x) *ℤ to_z w128 (of_z w128 y)))) ≤ 2 ^ 63 * unsigned_abs b
worth_bits a b x y f g e h =
    let k : x ≡ a = e ∙ to_z-of_z f in
    let l : y ≡ b = h ∙ to_z-of_z g in
    let m : FitsSigned w128 x = omega (arith, ints) in
    let n : FitsSigned w128 y = omega (arith, ints) in
    rw (to_z-of_z (wide_bits a b x y f g e h)) (rw (to_z-of_z m, to_z-of_z n, k, l) (worth_small a b f))

-- and with a cast factor
pub cast_worth_small : (mw : ℕ) (read worth : ℤ) → Fits w32 mw → read ≡ pos mw → unsigned_abs worth ≤ 2 ^ 63 * unsigned_abs (to_z w64 (of_z w64 read)) → unsigned_abs worth ≤ 2 ^ 63 * mw
cast_worth_small mw read worth f e h =
    let k : FitsSigned w64 read = omega (arith, ints) in
    rw (to_z-of_z k, e) at h
