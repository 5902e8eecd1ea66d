use Rattle.std.proofs.Common.{rules, to_z-of_z, w64, arith}
use Rattle.std.proofs.lemmas.Int.{ints}
use Rattle.std.specs.Prelude.{FitsSigned}
use Rattle.mari_reach.proofs.ByLevel.{above_is}
use Rattle.mari_reach.proofs.levels.withdraw_above.Goals as goal

pub returns : goal.returns
returns c =
    let p : FitsSigned w64 c.args.potential.0 = search rules in
    let low : FitsSigned w64 c.args.low = search rules in
    let high : FitsSigned w64 c.args.high = search rules in
    let inner : FitsSigned w64 c.max.result = search rules in
    let outer : FitsSigned w64 c.min.result = search rules in
    above_is c.args.potential.0 c.args.low c.args.high c.max.result c.min.result (to_z-of_z p) (to_z-of_z low) (to_z-of_z high) (to_z-of_z inner) (to_z-of_z outer)
    (omega (arith, ints, c.max.type_inv)) c.requires.low c.max.ensures.value c.min.ensures.value
