use Rattle.std.specs.List.{AllZip}
use Rattle.mari_network.specs.Slots.{IsWithinSlot}
use Rattle.mari_paths.proofs.OnePrice.{AreZonesRun}
use Rattle.mari_paths.proofs.merit.amounts_by_price.Given as goal

abbrev pub invariant-loop-zone : goal.invariant-loop-zone
invariant-loop-zone l = record {
  within : AllZip IsWithinSlot l.slots l.amounts.items;
  zones : AreZonesRun l.slots l.ladders l.market.borders l.price l.zone l.amounts.items;
}
