use Rattle.std.proofs.Common.{◌≡◌, ◌<◌, ℤ, ◌+ℤ◌, ◌-ℤ◌, pos, ◌<ℤ◌, ◌≤ℤ◌, length, to_z, of_z, to_z-of_z, false, FitsSigned, w64, arith, rules, refl, sym, subst, ◌∙◌, get_or-set_other}
use Rattle.std.proofs.lemmas.Int.{ints}
use lib.Signed.{le_z}
use Rattle.mari_market.proofs.Sums.{AllZip-set}
use Rattle.mari_network.specs.Network.{no_rung, rung_at}
use Rattle.mari_network.specs.Slots.{no_slot, slot_at, IsWithinSlot}
use Rattle.mari_network.proofs.Lists.{zip_long}
use Rattle.mari_paths.specs.Merit.{IsOrderRange}
use Rattle.mari_paths.proofs.Cheapest.{further, ladder_in_order, none_yet, run_out}
use Rattle.mari_paths.proofs.merit.run_cheapest.Goals as goal

not_most : (a b : ℤ) → le_z a b ≡ false → b <ℤ a
not_most a b h = grind (arith, ints)

pub bounds-amounts-rung : goal.bounds-amounts-rung
bounds-amounts-rung c =
    let there : (rung_at c.args.ladder.now c.loop-rung.rung-index).place < length c.args.slots.now = c.requires.ladder.there c.loop-rung.rung-index no_rung c.loop-rung-test.true in
    omega (arith, there, zip_long IsWithinSlot c.args.slots.now c.loop-rung.amounts c.loop-rung.invariant.within)

pub loop-rung-init : goal.loop-rung-init
loop-rung-init c = record {
  within = c.requires.within;
  halfway = none_yet c.args.slots.now c.args.ladder.now _ c.args.amounts.now c.requires.least;
  others = λ k other. refl;
}

pub loop-rung-preserved : goal.loop-rung-preserved
loop-rung-preserved c =
    let place = (rung_at c.args.ladder.now c.loop-rung.rung-index).place in
    let there : (rung_at c.args.ladder.now c.loop-rung.rung-index).place < length c.args.slots.now = c.requires.ladder.there c.loop-rung.rung-index no_rung c.loop-rung-test.true in
    let range : IsOrderRange (slot_at c.args.slots.now (rung_at c.args.ladder.now c.loop-rung.rung-index).place) = c.requires.slots place no_slot there in
    let within : IsWithinSlot (slot_at c.args.slots.now (rung_at c.args.ladder.now c.loop-rung.rung-index).place)
    ((slot_at c.args.slots.now (rung_at c.args.ladder.now c.loop-rung.rung-index).place).low +ℤ c.part_of-part.result) = c.part_of-part.ensures.within in
    let new : to_z w64 (of_z w64 (to_z w64 (of_z w64 (slot_at c.args.slots.now (rung_at c.args.ladder.now c.loop-rung.rung-index).place).low) +ℤ to_z w64 (of_z w64 c.part_of-part.result)))
    ≡ (slot_at c.args.slots.now (rung_at c.args.ladder.now c.loop-rung.rung-index).place).low +ℤ c.part_of-part.result =
    omega (arith, ints, range.low, range.in_order, range.high, within.least, within.most) in
    let left : to_z w64 (of_z w64 (to_z w64 c.loop-rung.left-bits -ℤ to_z w64 (of_z w64 c.part_of-part.result))) ≡ to_z w64 c.loop-rung.left-bits -ℤ c.part_of-part.result = search rules in
    let some : pos 0 <ℤ to_z w64 c.loop-rung.left-bits = not_most (to_z w64 c.loop-rung.left-bits) (pos 0) c.if-left-le0.false in
    record {
      within = AllZip-set IsWithinSlot c.args.slots.now c.loop-rung.amounts place _ no_slot there
          (subst (λ (x : ℤ). IsWithinSlot (slot_at c.args.slots.now (rung_at c.args.ladder.now c.loop-rung.rung-index).place) x) (sym new) within) c.loop-rung.invariant.within;
      halfway = further c.args.slots.now c.args.ladder.now (to_z w64 (of_z w64 c.args.more))
          (to_z w64 c.loop-rung.left-bits) _ c.part_of-part.result c.loop-rung.rung-index c.loop-rung.amounts _ c.requires.ladder
          (ladder_in_order c.args.slots.now c.args.ladder.now c.requires.slots c.requires.ladder) c.loop-rung.invariant.within c.loop-rung-test.true some c.part_of-part.ensures.part left new
          c.loop-rung.invariant.halfway;
      others = λ k other. get_or-set_other c.loop-rung.amounts place k _ (pos 0) (λ e. other c.loop-rung.rung-index no_rung c.loop-rung-test.true (sym e)) ∙ c.loop-rung.invariant.others k other;
    }

pub returns-then-left-le0-clause-merit : goal.returns-then-left-le0-clause-merit
returns-then-left-le0-clause-merit c =
    let none : to_z w64 c.loop-rung.left-bits ≤ℤ pos 0 = search rules in
    let fits : FitsSigned w64 c.args.more = search rules in
    run_out c.args.slots.now c.args.ladder.now c.args.more (to_z w64 c.loop-rung.left-bits) c.loop-rung.rung-index c.loop-rung.amounts c.requires.ladder
    (ladder_in_order c.args.slots.now c.args.ladder.now c.requires.slots c.requires.ladder)
    c.loop-rung.invariant.within (λ l. none) (rw (to_z-of_z fits) at c.loop-rung.invariant.halfway)

pub returns-clause-merit : goal.returns-clause-merit
returns-clause-merit c =
    let fits : FitsSigned w64 c.args.more = search rules in
    run_out c.args.slots.now c.args.ladder.now c.args.more (to_z w64 c.loop-rung.left-bits) c.loop-rung.rung-index c.loop-rung.amounts c.requires.ladder
    (ladder_in_order c.args.slots.now c.args.ladder.now c.requires.slots c.requires.ladder)
    c.loop-rung.invariant.within (λ l. absurd (omega (arith, l, c.loop-rung-test.false))) (rw (to_z-of_z fits) at c.loop-rung.invariant.halfway)
