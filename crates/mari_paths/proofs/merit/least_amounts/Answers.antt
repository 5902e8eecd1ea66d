use Rattle.std.proofs.Common.{◌≡◌, ◌<◌, ℕ, ℤ, pos, List, ap, map, ◌∙◌, length, to_z-of_z, FitsSigned, w64, arith}
use Rattle.std.proofs.lemmas.Int.{ints}
use Rattle.std.proofs.lemmas.List.{get_or-map, take_all}
use Rattle.mari_market.specs.Sums.{int_at}
use Rattle.mari_network.specs.declared.slots.Slot.{Slot}
use Rattle.mari_network.specs.Slots.{no_slot, slot_at, IsWithinSlot}
use Rattle.mari_network.proofs.Lists.{pushed_map, zip_step}
use Rattle.mari_paths.specs.Merit.{IsOrderRange}
use Rattle.mari_paths.proofs.Merits.{least_within}
use Rattle.mari_paths.proofs.merit.least_amounts.Goals as goal

pub loop-slot-preserved : goal.loop-slot-preserved
loop-slot-preserved c =
    let range : IsOrderRange (slot_at c.args.slots.now c.loop-slot.slot-index) = c.requires.slots c.loop-slot.slot-index no_slot c.loop-slot-test.true in
    let fits : FitsSigned w64 (slot_at c.args.slots.now c.loop-slot.slot-index).low = omega (arith, ints, range.low, range.in_order, range.high) in
    record {
      within =
          zip_step IsWithinSlot c.args.slots.now c.loop-slot.amounts.items c.push.new.self.items c.loop-slot.slot-index no_slot _ c.loop-slot-test.true
          c.in_ok-push.ensures.items c.loop-slot.invariant.within (rw (to_z-of_z fits) (least_within (slot_at c.args.slots.now c.loop-slot.slot-index) range));
      least = pushed_map (λ (s : Slot). s.low) c.args.slots.now c.loop-slot.slot-index no_slot c.loop-slot.amounts.items c.push.new.self.items _ c.loop-slot-test.true c.in_ok-push.ensures.items
          c.loop-slot.invariant.least (to_z-of_z fits);
    }

low_at : (slots : List Slot) (k : ℕ) → k < length slots → int_at (map (λ (s : Slot). s.low) slots) k ≡ (slot_at slots k).low
low_at slots k l = get_or-map (λ (s : Slot). s.low) slots k no_slot (pos 0) l

pub returns-clause-least : goal.returns-clause-least
returns-clause-least c = λ k l.
    ap (λ (xs : List ℤ). int_at xs k) (c.loop-slot.invariant.least ∙ ap (λ (ss : List Slot). map (λ (s : Slot). s.low) ss) (take_all c.loop-slot.slot-index c.args.slots.now c.loop-slot-test.false))
    ∙ low_at c.args.slots.now k l
