use Rattle.std.proofs.Common.{false}
use Rattle.mari_welfare.proofs.Open.{get_or-all_same}
use Rattle.mari_reach.proofs.zones.ZoneSet.of.Goals as goal

pub loop-zone-init : goal.loop-zone-init
loop-zone-init c = λ z l. get_or-all_same 64 z false
