-- A printed number within bounds is read as itself.
use Rattle.std.proofs.Common.{◌≡◌, ◌≤◌, ◌<◌, ◌^◌, ℕ, true, Some, decimal, refl, arith}
use Rattle.std.specs.Prelude.{nat_le}
use Rattle.std.proofs.lemmas.Bool.Decides.{nat_tests}
use Rattle.mari_units.proofs.Digits.{decimal_whole}
use Rattle.mari_rows.specs.Fields.{number_in}

-- a number from the least to the greatest
pub decimal_in : (least greatest n : ℕ) → n < 2 ^ 64 → least ≤ n → n ≤ greatest → number_in least greatest (decimal n) ≡ Some n
decimal_in least greatest n small low high =
    let a : nat_le least n ≡ true = grind (arith, nat_tests) in
    let b : nat_le n greatest ≡ true = grind (arith, nat_tests) in
    rw (decimal_whole n small, a, b) refl
