use Rattle.std.proofs.Common.{take}
use Rattle.std.specs.List.{AllZip}
use Rattle.mari_network.specs.Slots.{IsWithinSlot}
use Rattle.mari_paths.proofs.start.amounts_near.Given as goal

abbrev pub invariant-loop-i : goal.invariant-loop-i
invariant-loop-i l = AllZip IsWithinSlot (take l.i l.slots) l.amounts.items
