-- The plain start: each slot at its least, and what stands in for that.
use Rattle.std.specs.Prelude.{List, ℤ, neg_ℤ, map}
use Rattle.mari_network.specs.declared.slots.Slot.{Slot}
use Rattle.mari_network.specs.Orders.{stand_in_of}

-- what stands in for the least that a slot puts in
abbrev pub stand_in_for : Slot → Slot
stand_in_for s = stand_in_of s.zone (neg_ℤ s.low)

abbrev pub stand_ins_for : List Slot → List Slot
stand_ins_for slots = map stand_in_for slots

-- each slot at its least
abbrev pub lows : List Slot → List ℤ
lows slots = map (λ s. s.low) slots

-- and what stands in for it takes away, or gives, then
abbrev pub offsets : List Slot → List ℤ
offsets slots = map (λ s. neg_ℤ s.low) slots
