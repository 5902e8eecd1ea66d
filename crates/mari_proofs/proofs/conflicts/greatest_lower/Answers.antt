use Rattle.std.proofs.Common.{arith, to_z-of_z, w64, rules}
use Rattle.std.specs.Prelude.{FitsSigned}
use Rattle.mari_proofs.specs.Conflicts.{opens_gate}
use Rattle.mari_proofs.proofs.PriceBounds.{lower_more}
use Rattle.mari_proofs.proofs.conflicts.greatest_lower.Goals as goal

pub loop-i-preserved : goal.loop-i-preserved
loop-i-preserved c =
    let fits : FitsSigned w64 c.raised-bound.result = search rules in
    rw (to_z-of_z fits)
    (lower_more (opens_gate c.args.prefix.now) c.args.zone c.args.orders.now c.args.mw.now c.loop-i.i _ _ c.raised-bound.result c.loop-i-test.true
    (omega arith) c.loop-i.invariant c.raised-bound.ensures.least c.raised-bound.ensures.above c.raised-bound.ensures.reached)
