use Rattle.std.proofs.Common.{◌≡◌, take, ◌++◌}
use Rattle.mari_flow.specs.Starts.{stand_ins_for}
use Rattle.mari_flow.proofs.start.with_stand_ins.Given as goal

abbrev pub invariant-loop-slot : goal.invariant-loop-slot
invariant-loop-slot l = l.all.items ≡ take l.slot-index l.slots

abbrev pub invariant-loop-slot-2 : goal.invariant-loop-slot-2
invariant-loop-slot-2 l = l.all.items ≡ l.slots ++ stand_ins_for (take l.slot-index l.slots)
