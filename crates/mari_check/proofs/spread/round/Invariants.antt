use Rattle.std.proofs.Common.{◌≡◌, ◌<◌, true, false, take}
use Rattle.std.specs.List.{AllZip}
use Rattle.mari_check.specs.Spread.{IsClosedOver, Spreads, room_of}
use Rattle.mari_market.specs.Along.{LeadsTo}
use Rattle.mari_check.proofs.spread.round.Given as goal

-- the values so far, and where none was raised, no border so far leads to a lesser value
abbrev pub invariant-loop-i : goal.invariant-loop-i
invariant-loop-i l = record {
  spreads : Spreads (LeadsTo l.along l.borders l.flow) l.initial.values l.values;
  settled : l.raised ≡ false → (l.values ≡ l.initial.values) × AllZip (IsClosedOver l.along l.values) (take l.i l.borders) (take l.i l.flow);
  less : l.raised ≡ true → room_of l.values < room_of l.initial.values;
}
