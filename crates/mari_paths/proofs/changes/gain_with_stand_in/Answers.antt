use Rattle.std.proofs.Common.{◌≡◌, ◌+◌, ◌<◌, ◌*◌, ◌≤ℤ◌, neg_ℤ, pos, ℕ, ℤ, List, length, ap, ◌∙◌, arith, rules, to_z, of_z, to_z-of_z, FitsSigned, w64}
use Rattle.std.proofs.lemmas.Int.{ints}
use Rattle.mari_market.specs.declared.market.Market.{Market}
use Rattle.mari_market.specs.declared.market.Order.{Order}
use Rattle.mari_market.specs.Sums.{int_at}
use Rattle.mari_network.specs.declared.slots.Slot.{Slot}
use Rattle.mari_network.specs.Slots.{slot_at, slot_gain, zone_of, IsWithinSlot}
use Rattle.mari_network.proofs.Lists.{zip_long}
use Rattle.mari_paths.specs.Starts.{gain_at, AreFilled}
use Rattle.mari_paths.proofs.Changed.{small_at, stand_there}
use Rattle.mari_paths.proofs.changes.gain_with_stand_in.Goals as goal

pub bounds-amounts-place : goal.bounds-amounts-place
bounds-amounts-place c = omega (arith, c.requires.filled.long, c.requires.place, zip_long IsWithinSlot c.args.slots.now c.args.amounts.now c.requires.filled.within)

pub bounds-amounts-stand : goal.bounds-amounts-stand
bounds-amounts-stand c =
    let n = ap (λ (os : List Order). length os) c.as_slice.ensures in
    omega (
      arith,
      n,
      stand_there c.args.market.now c.args.slots.now c.args.amounts.now c.args.place c.requires.filled c.requires.place,
      zip_long IsWithinSlot c.args.slots.now c.args.amounts.now c.requires.filled.within,
    )

-- what the slot and the stand-in add, as the code reads it, and that both are small
record AreGains (m : Market) (slots : List Slot) (xs : List ℤ) (place : ℕ) (first second : ℤ) : Type 0 where
  pub first_is : first ≡ gain_at slots xs place
  pub second_is : second ≡ gain_at slots xs (length m.orders + zone_of slots place)
  pub first_small : (neg_ℤ (pos (20000000 * 1099511627776)) ≤ℤ first) × (first ≤ℤ pos (20000000 * 1099511627776))
  pub second_small : (neg_ℤ (pos (20000000 * 1099511627776)) ≤ℤ second) × (second ≤ℤ pos (20000000 * 1099511627776))

gains : (m : Market) (slots : List Slot) (xs : List ℤ) (orders : List Order) (place : ℕ) (first second : ℤ) → AreFilled m slots xs → place < length m.orders → orders ≡ m.orders
    → FitsSigned w64 (int_at xs place) → FitsSigned w64 (int_at xs (length orders + zone_of slots place))
    → first ≡ slot_gain (slot_at slots place) (to_z w64 (of_z w64 (int_at xs place)))
    → second ≡ slot_gain (slot_at slots (length orders + zone_of slots place)) (to_z w64 (of_z w64 (int_at xs (length orders + zone_of slots place))))
    → AreGains m slots xs place first second
gains m slots xs orders place first second filled l same one two e f =
    let first_is : first ≡ gain_at slots xs place = e ∙ ap (slot_gain (slot_at slots place)) (to_z-of_z one) in
    let second_is : second ≡ gain_at slots xs (length m.orders + zone_of slots place) =
    f ∙ ap (slot_gain (slot_at slots (length orders + zone_of slots place))) (to_z-of_z two) ∙ ap (λ (os : List Order). gain_at slots xs (length os + zone_of slots place)) same in
    let here = small_at m slots xs place filled (omega (arith, filled.long, l)) in
    let there = small_at m slots xs (length m.orders + zone_of slots place) filled (stand_there m slots xs place filled l) in
    record {
      first_is = first_is;
      second_is = second_is;
      first_small = (omega (arith, ints, first_is, here.0), omega (arith, ints, first_is, here.1));
      second_small = (omega (arith, ints, second_is, there.0), omega (arith, ints, second_is, there.1));
    }

pub overflow_add-result : goal.overflow_add-result
overflow_add-result c =
    let both : AreGains c.args.market.now c.args.slots.now c.args.amounts.now c.args.place c.gain_of.result c.gain_of-2.result =
    gains c.args.market.now c.args.slots.now c.args.amounts.now c.as_slice.result.now c.args.place c.gain_of.result c.gain_of-2.result c.requires.filled c.requires.place c.as_slice.ensures
    (search rules) (search rules) c.gain_of.ensures c.gain_of-2.ensures in
    omega (arith, ints, both.first_small.0, both.first_small.1, both.second_small.0, both.second_small.1)

pub returns : goal.returns
returns c =
    let both : AreGains c.args.market.now c.args.slots.now c.args.amounts.now c.args.place c.gain_of.result c.gain_of-2.result =
    gains c.args.market.now c.args.slots.now c.args.amounts.now c.as_slice.result.now c.args.place c.gain_of.result c.gain_of-2.result c.requires.filled c.requires.place c.as_slice.ensures
    (search rules) (search rules) c.gain_of.ensures c.gain_of-2.ensures in
    omega (arith, ints, both.first_is, both.second_is, both.first_small.0, both.first_small.1, both.second_small.0, both.second_small.1)
