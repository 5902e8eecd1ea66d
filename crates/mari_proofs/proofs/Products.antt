-- Products of a signed number and a quantity, in words.
use Rattle.std.proofs.Common.{◌≡◌, ℕ, ◌*◌, ◌^◌, ◌<◌, ◌≤◌, ℤ, pos, neg_ℤ, ◌*ℤ◌, ◌≤ℤ◌, w64, to_z, of_z, to_z-of_z, FitsSigned, arith, refl, sym, subst}
use Rattle.std.proofs.lemmas.Int.{ints}
use Rattle.mari_market.proofs.Wide.{scaled}

-- the product as a word has it
abbrev pub read_product : ℤ → ℤ → ℤ
read_product k x = to_z w64 (of_z w64 k) *ℤ to_z w64 (of_z w64 x)

-- it fits, is the product, and at most `most` from 0
pub record IsProduct (most : ℕ) (k : ℤ) (q : ℕ) (x : ℤ) : Type 0 where
  pub fits : FitsSigned w64 (read_product k x)
  pub value : to_z w64 (of_z w64 (read_product k x)) ≡ k *ℤ pos q
  pub low : neg_ℤ (pos most) ≤ℤ to_z w64 (of_z w64 (read_product k x))
  pub high : to_z w64 (of_z w64 (read_product k x)) ≤ℤ pos most

pub product : (most m n : ℕ) (k : ℤ) (q : ℕ) (x : ℤ) → most < 2 ^ 63 → m * n ≤ most → m < 2 ^ 63 → n < 2 ^ 63 → neg_ℤ (pos m) ≤ℤ k → k ≤ℤ pos m → q ≤ n → x ≡ pos q
    → IsProduct most k q x
product most m n k q x small within few less low high much same =
    let one : FitsSigned w64 k = omega (arith, ints, few, low, high) in
    let other : FitsSigned w64 x = omega (arith, ints, less, much, same) in
    let read : read_product k x ≡ k *ℤ pos q = rw (to_z-of_z one, to_z-of_z other, same) refl in
    let bounds = scaled k q m n low high much in
    let fits : FitsSigned w64 (read_product k x) = subst (λ (p : ℤ). FitsSigned w64 p) (sym read) (omega (arith, ints, bounds.0, bounds.1, small, within)) in
    record {
      fits = fits;
      value = rw (to_z-of_z fits) read;
      low = rw (to_z-of_z fits, read) (omega (arith, ints, bounds.0, within));
      high = rw (to_z-of_z fits, read) (omega (arith, ints, bounds.1, within));
    }
