use Rattle.std.proofs.Common.{◌≡◌, take, ◌++◌}
use Rattle.mari_flow.specs.Starts.{lows, offsets}
use Rattle.mari_flow.proofs.start.first_amounts.Given as goal

abbrev pub invariant-loop-slot : goal.invariant-loop-slot
invariant-loop-slot l = l.amounts.items ≡ lows (take l.slot-index l.slots)

abbrev pub invariant-loop-slot-2 : goal.invariant-loop-slot-2
invariant-loop-slot-2 l = l.amounts.items ≡ lows l.slots ++ offsets (take l.slot-index l.slots)
