use Rattle.std.proofs.Common.{◌≡◌, pos, to_z-of_z, rules, FitsSigned, w64, arith}
use Rattle.std.proofs.lemmas.Int.{ints}
use Rattle.mari_market.specs.Sums.{int_at}
use Rattle.mari_market.proofs.Sums.{AllZip-at, sum_along_more}
use Rattle.mari_network.specs.Slots.{no_slot, slot_at, slot_gain, IsWithinSlot}
use Rattle.mari_network.proofs.Worths.{small_gain}
use Rattle.mari_network.proofs.slots.worth_of.Goals as goal

pub overflow_add-total : goal.overflow_add-total
overflow_add-total c =
    let fits : FitsSigned w64 (int_at c.args.amounts.now c.loop-i.i) = search rules in
    let gain : c.gain_of-total.result ≡ slot_gain (slot_at c.args.slots.now c.loop-i.i) (int_at c.args.amounts.now c.loop-i.i) = rw (to_z-of_z fits) at c.gain_of-total.ensures in
    let small = small_gain (slot_at c.args.slots.now c.loop-i.i) (int_at c.args.amounts.now c.loop-i.i) (c.requires.small c.loop-i.i no_slot c.loop-i-test.true)
    (AllZip-at IsWithinSlot c.args.slots.now c.args.amounts.now c.loop-i.i no_slot (pos 0) c.loop-i-test.true c.requires.within) in
    omega (arith, ints, c.loop-i.invariant.least, c.loop-i.invariant.most, gain, small.0, small.1)

pub loop-i-preserved : goal.loop-i-preserved
loop-i-preserved c =
    let fits : FitsSigned w64 (int_at c.args.amounts.now c.loop-i.i) = search rules in
    let gain : c.gain_of-total.result ≡ slot_gain (slot_at c.args.slots.now c.loop-i.i) (int_at c.args.amounts.now c.loop-i.i) = rw (to_z-of_z fits) at c.gain_of-total.ensures in
    let small = small_gain (slot_at c.args.slots.now c.loop-i.i) (int_at c.args.amounts.now c.loop-i.i) (c.requires.small c.loop-i.i no_slot c.loop-i-test.true)
    (AllZip-at IsWithinSlot c.args.slots.now c.args.amounts.now c.loop-i.i no_slot (pos 0) c.loop-i-test.true c.requires.within) in
    record {
      sum = omega (
        arith,
        ints,
        c.loop-i.invariant.sum,
        gain,
        sum_along_more slot_gain c.args.slots.now c.args.amounts.now c.loop-i.i no_slot (pos 0) c.loop-i-test.true (omega (arith, c.requires.lengths, c.loop-i-test.true)),
      );
      least = omega (arith, ints, c.loop-i.invariant.least, gain, small.0);
      most = omega (arith, ints, c.loop-i.invariant.most, gain, small.1);
    }
