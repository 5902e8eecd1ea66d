use Rattle.std.proofs.Common.{◌≡◌, take, map}
use Rattle.std.specs.List.{AllZip}
use Rattle.mari_network.specs.declared.slots.Slot.{Slot}
use Rattle.mari_network.specs.Slots.{IsWithinSlot}
use Rattle.mari_paths.proofs.merit.least_amounts.Given as goal

abbrev pub invariant-loop-slot : goal.invariant-loop-slot
invariant-loop-slot l = record {
  within : AllZip IsWithinSlot (take l.slot-index l.slots) l.amounts.items;
  least : l.amounts.items ≡ map (λ (s : Slot). s.low) (take l.slot-index l.slots);
}
