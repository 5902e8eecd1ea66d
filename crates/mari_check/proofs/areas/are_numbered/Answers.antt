use Rattle.std.proofs.Common.{below_more}
use Rattle.mari_check.proofs.areas.are_numbered.Goals as goal

pub loop-zone-preserved : goal.loop-zone-preserved
loop-zone-preserved c = below_more _ _ c.loop-zone.invariant (c.is_numbered.ensures.0 c.if-not-is_numbered.false)
