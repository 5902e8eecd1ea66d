use Rattle.std.proofs.Common.{arith, ◌≡◌, if◌then◌else◌, pos, ◌-ℤ◌, to_z-of_z}
use Rattle.std.proofs.lemmas.Int.{ints, fits_signed_from_abs}
use Rattle.std.specs.Int.{w128}
use Rattle.std.specs.Prelude.{FitsSigned}
use Rattle.mari_settle.specs.Ledger.{half_of}
use Rattle.mari_settle.proofs.operators.share.Goals as goal

pub returns-clause-value : goal.returns-clause-value
returns-clause-value c =
    let rent = c.args.rent in
    let rent_fits : FitsSigned w128 rent = fits_signed_from_abs w128 rent (omega arith) in
    let greater_fits : FitsSigned w128 c.greater_half.result = fits_signed_from_abs w128 c.greater_half.result (omega arith) in
    let lesser_fits : FitsSigned w128 c.lesser_half.result = fits_signed_from_abs w128 c.lesser_half.result (omega arith) in
    let greater : c.greater_half.result ≡ rent -ℤ half_of rent = rw (to_z-of_z rent_fits) at c.greater_half.ensures.value in
    let lesser : c.lesser_half.result ≡ half_of rent = rw (to_z-of_z rent_fits) at c.lesser_half.ensures.value in
    let first : c.part_if.result ≡ (if c.args.first then rent -ℤ half_of rent else pos 0) = rw (to_z-of_z greater_fits, greater) at c.part_if.ensures.value in
    let second : c.part_if-2.result ≡ (if c.args.second then half_of rent else pos 0) = rw (to_z-of_z lesser_fits, lesser) at c.part_if-2.ensures.value in
    omega (arith, ints, first, second)
