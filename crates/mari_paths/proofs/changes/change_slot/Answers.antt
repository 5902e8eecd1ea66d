use Rattle.std.proofs.Common.{◌≡◌, ◌+◌, ◌<◌, ◌+ℤ◌, ◌-ℤ◌, ℕ, ℤ, List, length, sym, ap, ◌∙◌, subst, arith, rules, to_z, of_z, to_z-of_z, FitsSigned, w64}
use Rattle.std.specs.Int.{w128}
use Rattle.std.proofs.lemmas.Int.{ints}
use Rattle.mari_market.specs.declared.market.Order.{Order}
use Rattle.mari_market.specs.Sums.{int_at, sum_along}
use Rattle.mari_market.specs.declared.market.Market.{Market}
use Rattle.mari_market.specs.Market.{IsValid}
use Rattle.mari_network.specs.declared.slots.Slot.{Slot}
use Rattle.mari_network.specs.Slots.{slot_at, slot_gain, IsWithinSlot}
use Rattle.mari_network.proofs.Lists.{zip_long}
use Rattle.mari_paths.specs.Starts.{joint_gain, AreFilled}
use Rattle.mari_paths.proofs.Shortages.{near_wider}
use Rattle.mari_paths.proofs.Steps.{change_step}
use Rattle.mari_paths.proofs.Changed.{change_made, filled_worth, same_slot, small_joint, small_loss, small_order, stood_before, IsChanged}
use Rattle.mari_paths.proofs.changes.change_slot.Goals as goal

pub returns-then-eq-clause-near : goal.returns-then-eq-clause-near
returns-then-eq-clause-near c = λ most near z l. near_wider most (most + 200000) (int_at c.args.amounts.now (length c.args.market.now.orders + z)) (near z l) (omega arith)

pub put_slot-less-requires-clause-lengths : goal.put_slot-less-requires-clause-lengths
put_slot-less-requires-clause-lengths c = sym (zip_long IsWithinSlot c.args.slots.now c.args.amounts.now c.requires.filled.within)

pub put_slot-less-requires-clause-near : goal.put_slot-less-requires-clause-near
put_slot-less-requires-clause-near c = small_order c.args.market.now c.args.slots.now c.args.amounts.now c.args.place c.requires.filled c.requires.place

pub stand_for-requires-clause-lengths : goal.stand_for-requires-clause-lengths
stand_for-requires-clause-lengths c = omega (arith, c.put_slot-less.auto.slots, c.put_slot-less.auto.amounts, zip_long IsWithinSlot c.args.slots.now c.args.amounts.now c.requires.filled.within)

pub stand_for-requires-clause-more : goal.stand_for-requires-clause-more
stand_for-requires-clause-more c =
    let fits : FitsSigned w64 c.put_slot-less.result = search rules in
    rw (to_z-of_z fits) (small_loss c.args.market.now c.args.slots.now c.args.amounts.now c.args.place c.args.slot c.put_slot-less.result c.requires.filled c.requires.place c.requires.slot
    c.put_slot-less.ensures.within)

pub returns-then-eq-clause-here : goal.returns-then-eq-clause-here
returns-then-eq-clause-here c =
    same_slot (slot_at c.args.slots.now c.args.place) c.args.slot (sym c.eq.ensures ∙ c.if-eq.true)

pub stand_for-requires-clause-before : goal.stand_for-requires-clause-before
stand_for-requires-clause-before c =
    stood_before c.args.market.now c.args.amounts.now c.put_slot-less.new.amounts c.args.place (length c.as_slice.result.now + c.args.slot.zone) 2000000000 c.args.slot _
    c.requires.place c.requires.slot.fine.zone c.requires.near (ap (λ (os : List Order). length os + c.args.slot.zone) c.as_slice.ensures) c.put_slot-less.ensures.amounts

pub gain_with_stand_in-requires-clause-filled : goal.gain_with_stand_in-requires-clause-filled
gain_with_stand_in-requires-clause-filled c =
    let fits : FitsSigned w64 c.put_slot-less.result = search rules in
    let all : IsChanged c.args.market.now c.args.place c.args.slot c.args.slots.now c.stand_for.new.slots c.args.amounts.now c.stand_for.new.amounts =
    change_made c.args.market.now c.args.slots.now c.put_slot-less.new.slots c.stand_for.new.slots c.args.amounts.now c.put_slot-less.new.amounts c.stand_for.new.amounts c.args.place
    (length c.as_slice.result.now + c.args.slot.zone) c.args.slot c.put_slot-less.result c.requires.filled c.requires.near c.requires.place c.requires.slot c.requires.zone
    c.put_slot-less.ensures.within
    (ap (λ (os : List Order). length os + c.args.slot.zone) c.as_slice.ensures) c.put_slot-less.ensures.slots c.put_slot-less.ensures.amounts
    (rw (to_z-of_z fits) at c.stand_for.ensures.slots) (rw (to_z-of_z fits) at c.stand_for.ensures.amounts) in
    all.filled

pub overflow_sub-worth : goal.overflow_sub-worth
overflow_sub-worth c =
    let fits : FitsSigned w64 c.put_slot-less.result = search rules in
    let all : IsChanged c.args.market.now c.args.place c.args.slot c.args.slots.now c.stand_for.new.slots c.args.amounts.now c.stand_for.new.amounts =
    change_made c.args.market.now c.args.slots.now c.put_slot-less.new.slots c.stand_for.new.slots c.args.amounts.now c.put_slot-less.new.amounts c.stand_for.new.amounts c.args.place
    (length c.as_slice.result.now + c.args.slot.zone) c.args.slot c.put_slot-less.result c.requires.filled c.requires.near c.requires.place c.requires.slot c.requires.zone
    c.put_slot-less.ensures.within
    (ap (λ (os : List Order). length os + c.args.slot.zone) c.as_slice.ensures) c.put_slot-less.ensures.slots c.put_slot-less.ensures.amounts
    (rw (to_z-of_z fits) at c.stand_for.ensures.slots) (rw (to_z-of_z fits) at c.stand_for.ensures.amounts) in
    let before = small_joint c.args.market.now c.args.slots.now c.args.amounts.now c.args.place c.requires.filled c.requires.place in
    let after = small_joint c.args.market.now c.stand_for.new.slots c.stand_for.new.amounts c.args.place all.filled c.requires.place in
    omega (arith, ints, c.gain_with_stand_in-before.ensures, c.gain_with_stand_in.ensures, before.0, before.1, after.0, after.1)

-- what all is worth after a change, as the code has it
worth_after : (m : Market) (place : ℕ) (s : Slot) (slots new : List Slot) (xs ys : List ℤ) (worth before after : ℤ) → IsValid m → AreFilled m slots xs → place < length m.orders
    → worth ≡ sum_along slot_gain slots xs
    → before ≡ joint_gain m slots xs place → after ≡ joint_gain m new ys place → IsChanged m place s slots new xs ys
    → to_z w128 (of_z w128 worth) +ℤ to_z w128 (of_z w128 (to_z w128 (of_z w128 after) -ℤ to_z w128 (of_z w128 before))) ≡ sum_along slot_gain new ys
worth_after m place s slots new xs ys worth before after v filled l e f g all =
    change_step worth _ _ _ _ before after (filled_worth m slots xs v filled) e f g all.worth (small_joint m slots xs place filled l) (small_joint m new ys place all.filled l)

pub overflow_add-worth : goal.overflow_add-worth
overflow_add-worth c =
    let fits : FitsSigned w64 c.put_slot-less.result = search rules in
    let all : IsChanged c.args.market.now c.args.place c.args.slot c.args.slots.now c.stand_for.new.slots c.args.amounts.now c.stand_for.new.amounts =
    change_made c.args.market.now c.args.slots.now c.put_slot-less.new.slots c.stand_for.new.slots c.args.amounts.now c.put_slot-less.new.amounts c.stand_for.new.amounts c.args.place
    (length c.as_slice.result.now + c.args.slot.zone) c.args.slot c.put_slot-less.result c.requires.filled c.requires.near c.requires.place c.requires.slot c.requires.zone
    c.put_slot-less.ensures.within
    (ap (λ (os : List Order). length os + c.args.slot.zone) c.as_slice.ensures) c.put_slot-less.ensures.slots c.put_slot-less.ensures.amounts
    (rw (to_z-of_z fits) at c.stand_for.ensures.slots) (rw (to_z-of_z fits) at c.stand_for.ensures.amounts) in
    let worth : FitsSigned w128 (sum_along slot_gain c.stand_for.new.slots c.stand_for.new.amounts) =
    filled_worth c.args.market.now c.stand_for.new.slots c.stand_for.new.amounts c.requires.market all.filled in
    subst (λ (x : ℤ). FitsSigned w128 x) (sym
    (worth_after c.args.market.now c.args.place c.args.slot c.args.slots.now c.stand_for.new.slots c.args.amounts.now c.stand_for.new.amounts c.args.worth.now c.gain_with_stand_in-before.result
    c.gain_with_stand_in.result c.requires.market c.requires.filled c.requires.place c.requires.worth c.gain_with_stand_in-before.ensures c.gain_with_stand_in.ensures all)) worth

pub returns : goal.returns
returns c =
    let fits : FitsSigned w64 c.put_slot-less.result = search rules in
    let all : IsChanged c.args.market.now c.args.place c.args.slot c.args.slots.now c.stand_for.new.slots c.args.amounts.now c.stand_for.new.amounts =
    change_made c.args.market.now c.args.slots.now c.put_slot-less.new.slots c.stand_for.new.slots c.args.amounts.now c.put_slot-less.new.amounts c.stand_for.new.amounts c.args.place
    (length c.as_slice.result.now + c.args.slot.zone) c.args.slot c.put_slot-less.result c.requires.filled c.requires.near c.requires.place c.requires.slot c.requires.zone
    c.put_slot-less.ensures.within
    (ap (λ (os : List Order). length os + c.args.slot.zone) c.as_slice.ensures) c.put_slot-less.ensures.slots c.put_slot-less.ensures.amounts
    (rw (to_z-of_z fits) at c.stand_for.ensures.slots) (rw (to_z-of_z fits) at c.stand_for.ensures.amounts) in
    let worth : FitsSigned w128 (sum_along slot_gain c.stand_for.new.slots c.stand_for.new.amounts) =
    filled_worth c.args.market.now c.stand_for.new.slots c.stand_for.new.amounts c.requires.market all.filled in
    record {
      filled = all.filled;
      near = all.near;
      into = all.into;
      worth = ap (λ (x : ℤ). to_z w128 (of_z w128 x))
          (worth_after c.args.market.now c.args.place c.args.slot c.args.slots.now c.stand_for.new.slots c.args.amounts.now c.stand_for.new.amounts c.args.worth.now c.gain_with_stand_in-before.result
          c.gain_with_stand_in.result c.requires.market c.requires.filled c.requires.place c.requires.worth c.gain_with_stand_in-before.ensures c.gain_with_stand_in.ensures all) ∙ to_z-of_z worth;
      here = all.here;
      others = all.others;
      zones = all.zones;
      amounts = all.amounts;
    }
