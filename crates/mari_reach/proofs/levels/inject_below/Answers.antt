use Rattle.std.proofs.Common.{rules, to_z-of_z, w64, arith}
use Rattle.std.proofs.lemmas.Int.{ints}
use Rattle.std.specs.Prelude.{FitsSigned}
use Rattle.mari_reach.proofs.ByLevel.{below_is}
use Rattle.mari_reach.proofs.levels.inject_below.Goals as goal

pub returns : goal.returns
returns c =
    let p : FitsSigned w64 c.args.potential.0 = search rules in
    let low : FitsSigned w64 c.args.low = search rules in
    let high : FitsSigned w64 c.args.high = search rules in
    let inner : FitsSigned w64 c.min.result = search rules in
    let outer : FitsSigned w64 c.max.result = search rules in
    below_is c.args.potential.0 c.args.low c.args.high c.min.result c.max.result (to_z-of_z p) (to_z-of_z low) (to_z-of_z high) (to_z-of_z inner) (to_z-of_z outer)
    (omega (arith, ints, c.min.type_inv)) c.requires.high c.min.ensures.value c.max.ensures.value
