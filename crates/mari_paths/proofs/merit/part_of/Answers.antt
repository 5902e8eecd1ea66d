use Rattle.std.proofs.Common.{pos, ◌-ℤ◌, ◌≤ℤ◌, arith, rules, FitsSigned, w64}
use Rattle.std.proofs.lemmas.Int.{clamps, ints}
use Rattle.mari_paths.proofs.merit.part_of.Goals as goal

pub returns-clause-within : goal.returns-clause-within
returns-clause-within c =
    let fits : FitsSigned w64 c.min.result = search rules in
    let most : c.min.result ≤ℤ (c.args.slot.high -ℤ c.args.slot.low) = omega (arith, ints, c.min.ensures.other_bound, c.requires.range.low, c.requires.range.in_order, c.requires.range.high) in
    let some : pos 0 ≤ℤ c.min.result = search rules in
    record { least = omega (arith, ints, some, fits); most = omega (arith, ints, most, fits) }

pub returns-clause-part : goal.returns-clause-part
returns-clause-part c = omega (arith, ints, clamps, c.min.ensures.value, c.requires.range.low, c.requires.range.in_order, c.requires.range.high)
