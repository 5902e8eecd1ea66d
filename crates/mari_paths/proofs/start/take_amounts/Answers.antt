use Rattle.std.proofs.Common.{◌≡◌, ◌<◌, ◌*◌, ◌+◌, ℕ, ℤ, pos, List, ◌-ℤ◌, neg_ℤ, ap, ◌∙◌, arith, take, length, to_z-of_z, FitsSigned, w64, rules}
use Rattle.std.proofs.lemmas.Int.{ints}
use Rattle.std.proofs.lemmas.List.{take_all}
use Rattle.mari_market.specs.Sums.{sum_along, int_at}
use Rattle.mari_market.proofs.Sums.{sum_along_more}
use Rattle.mari_network.specs.declared.slots.Slot.{Slot}
use Rattle.mari_network.specs.Slots.{no_slot, zone_of, at_zone, slot_into, IsWithinSlot}
use Rattle.mari_network.proofs.Lists.{zip_long}
use Rattle.mari_paths.proofs.Shortages.{less_at, near_less, near_zone, near_wider, small_amount}
use Rattle.mari_paths.proofs.start.take_amounts.Goals as goal

pub bounds-amounts-i : goal.bounds-amounts-i
bounds-amounts-i c = omega (arith, zip_long IsWithinSlot c.args.slots.now c.args.amounts.now c.requires.within, c.loop-i-test.true)

pub take_at-requires-clause-less : goal.take_at-requires-clause-less
take_at-requires-clause-less c =
    let fits : FitsSigned w64 (int_at c.args.amounts.now c.loop-i.i) = search rules in
    rw (to_z-of_z fits)
    (near_wider 99999 200000 (int_at c.args.amounts.now c.loop-i.i)
    (small_amount (length c.args.short.now) c.args.slots.now c.args.amounts.now c.loop-i.i c.requires.slots c.requires.within c.loop-i-test.true) (omega arith))

pub loop-i-preserved : goal.loop-i-preserved
loop-i-preserved c =
    let fits : FitsSigned w64 (int_at c.args.amounts.now c.loop-i.i) = search rules in
    let here = c.requires.slots c.loop-i.i no_slot c.loop-i-test.true in
    let there : zone_of c.args.slots.now c.loop-i.i < length c.loop-i.short = omega (arith, here.zone, c.loop-i.invariant.long) in
    let less : (z : ℕ) → int_at c.take_at.new.short z ≡ int_at c.loop-i.short z -ℤ at_zone z (zone_of c.args.slots.now c.loop-i.i) (int_at c.args.amounts.now c.loop-i.i) =
    λ z. ap (λ (xs : List ℤ). int_at xs z) (rw (to_z-of_z fits) at c.take_at.ensures) ∙ less_at c.loop-i.short (zone_of c.args.slots.now c.loop-i.i) z (int_at c.args.amounts.now c.loop-i.i) there in
    let long : c.loop-i.i < length c.args.amounts.now = omega (arith, zip_long IsWithinSlot c.args.slots.now c.args.amounts.now c.requires.within, c.loop-i-test.true) in
    record {
      long = omega (arith, c.take_at.auto.short, c.loop-i.invariant.long);
      near = λ z.
          near_less (99999 * c.loop-i.i) 99999 (99999 * (c.loop-i.i + 1)) (int_at c.loop-i.short z)
          (at_zone z (zone_of c.args.slots.now c.loop-i.i) (int_at c.args.amounts.now c.loop-i.i)) (int_at c.take_at.new.short z)
          (c.loop-i.invariant.near z)
          (near_zone 99999 z (zone_of c.args.slots.now c.loop-i.i) (int_at c.args.amounts.now c.loop-i.i)
          (small_amount (length c.args.short.now) c.args.slots.now c.args.amounts.now c.loop-i.i c.requires.slots c.requires.within c.loop-i-test.true)) (less z) (omega arith);
      each = λ z. omega (arith, ints, less z, c.loop-i.invariant.each z, sum_along_more (slot_into z) c.args.slots.now c.args.amounts.now c.loop-i.i no_slot (pos 0) c.loop-i-test.true long);
    }

pub returns-clause-each : goal.returns-clause-each
returns-clause-each c = λ z.
    let long = zip_long IsWithinSlot c.args.slots.now c.args.amounts.now c.requires.within in
    let slots : take c.loop-i.i c.args.slots.now ≡ c.args.slots.now = take_all c.loop-i.i c.args.slots.now c.loop-i-test.false in
    let amounts : take c.loop-i.i c.args.amounts.now ≡ c.args.amounts.now = take_all c.loop-i.i c.args.amounts.now (omega (arith, long, c.loop-i-test.false)) in
    c.loop-i.invariant.each z ∙ ap (λ (ss : List Slot). neg_ℤ (sum_along (slot_into z) ss (take c.loop-i.i c.args.amounts.now))) slots ∙ ap
    (λ (xs : List ℤ). neg_ℤ (sum_along (slot_into z) c.args.slots.now xs)) amounts
