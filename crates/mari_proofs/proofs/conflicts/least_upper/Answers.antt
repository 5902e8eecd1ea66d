use Rattle.std.proofs.Common.{arith, to_z-of_z, w64, rules}
use Rattle.std.specs.Prelude.{FitsSigned}
use Rattle.mari_proofs.specs.Conflicts.{opens_gate}
use Rattle.mari_proofs.proofs.PriceBounds.{upper_more}
use Rattle.mari_proofs.proofs.conflicts.least_upper.Goals as goal

pub loop-i-preserved : goal.loop-i-preserved
loop-i-preserved c =
    let fits : FitsSigned w64 c.lowered-bound.result = search rules in
    rw (to_z-of_z fits)
    (upper_more (opens_gate c.args.prefix.now) c.args.zone c.args.orders.now c.args.mw.now c.loop-i.i _ _ c.lowered-bound.result c.loop-i-test.true
    (omega arith) c.loop-i.invariant c.lowered-bound.ensures.greatest c.lowered-bound.ensures.below c.lowered-bound.ensures.reached)
