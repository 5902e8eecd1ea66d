use Rattle.std.proofs.Common.{neg_ℤ, arith}
use Rattle.std.proofs.lemmas.Int.{ints}
use Rattle.mari_network.specs.declared.slots.Slot.{Slot}
use Rattle.mari_network.specs.Slots.{no_slot, slot_at, IsSmallSlot}
use Rattle.mari_flow.specs.Starts.{lows}
use Rattle.mari_network.proofs.Lists.{pushed_after}
use Rattle.mari_flow.proofs.start.first_amounts.Goals as goal

pub loop-slot-2-preserved : goal.loop-slot-2-preserved
loop-slot-2-preserved c =
    let small : IsSmallSlot (slot_at c.args.slots.now c.loop-slot-2.slot-index) = c.requires.small c.loop-slot-2.slot-index no_slot c.loop-slot-2-test.true in
    let order = c.requires.order c.loop-slot-2.slot-index no_slot c.loop-slot-2-test.true in
    pushed_after (λ (s : Slot). neg_ℤ s.low) (lows c.args.slots.now) c.args.slots.now c.loop-slot-2.slot-index no_slot c.loop-slot-2.amounts.items _ _
    c.loop-slot-2-test.true c.in_ok-push-2.ensures.items c.loop-slot-2.invariant (omega (arith, ints, small.low, small.high, order))
