use Rattle.std.proofs.Common.{◌≡◌, ◌<◌, ◌*◌, ◌+◌, ◌+ℤ◌, ◌-ℤ◌, List, take, to_z, of_z, to_z-of_z, FitsSigned, w64, arith, rules, sym, subst}
use Rattle.std.proofs.lemmas.Int.{ints}
use Rattle.std.proofs.lemmas.List.{take_all}
use Rattle.std.specs.List.{All}
use Rattle.std.proofs.lemmas.List.Elements.{All-push}
use Rattle.mari_network.specs.declared.network.Rung.{Rung}
use Rattle.mari_network.specs.Network.{no_rung, rung_at}
use Rattle.mari_network.specs.Slots.{no_slot, slot_at}
use Rattle.mari_paths.specs.declared.curves.CurveStep.{CurveStep}
use Rattle.mari_paths.specs.Merit.{IsOrderRange}
use Rattle.mari_paths.specs.Starts.{IsNear}
use Rattle.mari_paths.proofs.Shortages.{near_more, near_wider}
use Rattle.mari_paths.proofs.Supplies.{steps_more_at, AreStepsOf}
use Rattle.mari_paths.proofs.curves.curve_of.Goals as goal

pub overflow_add-least : goal.overflow_add-least
overflow_add-least c =
    let range = c.requires.slots (rung_at c.args.ladder.now c.loop-rung.rung-index).place no_slot (c.requires.ladder.there c.loop-rung.rung-index no_rung c.loop-rung-test.true) in
    omega (arith, ints, range.low, range.in_order, range.high, c.loop-rung.invariant.least_near.low, c.loop-rung.invariant.least_near.high, c.loop-rung-test.true, c.requires.ladder.few)

pub overflow_add-more : goal.overflow_add-more
overflow_add-more c =
    let range = c.requires.slots (rung_at c.args.ladder.now c.loop-rung.rung-index).place no_slot (c.requires.ladder.there c.loop-rung.rung-index no_rung c.loop-rung-test.true) in
    omega (arith, ints, range.low, range.in_order, range.high, c.loop-rung.invariant.more_near.low, c.loop-rung.invariant.more_near.high, c.loop-rung-test.true, c.requires.ladder.few)

pub loop-rung-preserved : goal.loop-rung-preserved
loop-rung-preserved c =
    let at = c.loop-rung.rung-index in
    let range : IsOrderRange (slot_at c.args.slots.now (rung_at c.args.ladder.now c.loop-rung.rung-index).place) =
    c.requires.slots (rung_at c.args.ladder.now c.loop-rung.rung-index).place no_slot (c.requires.ladder.there c.loop-rung.rung-index no_rung c.loop-rung-test.true) in
    let few : c.loop-rung.rung-index < 4608 = omega (arith, c.loop-rung-test.true, c.requires.ladder.few) in
    let low : IsNear 99999 (slot_at c.args.slots.now (rung_at c.args.ladder.now c.loop-rung.rung-index).place).low =
    record { low = range.low; high = omega (arith, ints, range.in_order, range.high) } in
    let wide : IsNear 199998
    ((slot_at c.args.slots.now (rung_at c.args.ladder.now c.loop-rung.rung-index).place).high -ℤ (slot_at c.args.slots.now (rung_at c.args.ladder.now c.loop-rung.rung-index).place).low) =
    record { low = omega (arith, ints, range.in_order); high = omega (arith, ints, range.low, range.high) } in
    let more_is : to_z w64 (of_z w64 (to_z w64 c.loop-rung.more-bits +ℤ to_z w64 (of_z w64 (to_z w64 (of_z w64 (slot_at c.args.slots.now (rung_at c.args.ladder.now c.loop-rung.rung-index).place).high)
    -ℤ to_z w64 (of_z w64 (slot_at c.args.slots.now (rung_at c.args.ladder.now c.loop-rung.rung-index).place).low)))))
    ≡ to_z w64 c.loop-rung.more-bits
    +ℤ ((slot_at c.args.slots.now (rung_at c.args.ladder.now c.loop-rung.rung-index).place).high -ℤ (slot_at c.args.slots.now (rung_at c.args.ladder.now c.loop-rung.rung-index).place).low) =
    omega (arith, ints, few, range.low, range.in_order, range.high, c.loop-rung.invariant.more_near.low, c.loop-rung.invariant.more_near.high) in
    let least_is : to_z w64 (of_z w64 (to_z w64 c.loop-rung.least-bits +ℤ to_z w64 (of_z w64 (slot_at c.args.slots.now (rung_at c.args.ladder.now c.loop-rung.rung-index).place).low)))
    ≡ to_z w64 c.loop-rung.least-bits +ℤ (slot_at c.args.slots.now (rung_at c.args.ladder.now c.loop-rung.rung-index).place).low =
    omega (arith, ints, few, range.low, range.in_order, range.high, c.loop-rung.invariant.least_near.low, c.loop-rung.invariant.least_near.high) in
    let price_fits : FitsSigned w64 (rung_at c.args.ladder.now c.loop-rung.rung-index).price = search rules in
    let more = near_more (199998 * at) 199998 (199998 * (at + 1)) (to_z w64 c.loop-rung.more-bits) _ _ c.loop-rung.invariant.more_near wide more_is (omega arith) in
    record {
      least_near = near_more (99999 * at) 99999 (99999 * (at + 1)) (to_z w64 c.loop-rung.least-bits) _ _ c.loop-rung.invariant.least_near low least_is (omega arith);
      more_near = more;
      small = subst (λ (ss : List CurveStep). All (λ (s : CurveStep). IsNear 1000000000 s.more) ss) (sym c.in_ok-push.ensures.items)
          (All-push (λ (s : CurveStep). IsNear 1000000000 s.more) c.loop-rung.steps.items _ c.loop-rung.invariant.small (near_wider (199998 * (at + 1)) 1000000000 _ more (omega (arith, few))));
      steps =
          steps_more_at c.args.slots.now c.args.ladder.now c.loop-rung.rung-index (to_z w64 c.loop-rung.least-bits) (to_z w64 c.loop-rung.more-bits) _ c.loop-rung.steps.items _ _
          c.loop-rung-test.true c.requires.ladder (to_z-of_z price_fits) c.in_ok-push.ensures.items least_is more_is c.loop-rung.invariant.steps;
    }

pub returns-clause-supply : goal.returns-clause-supply
returns-clause-supply c =
    let all : take c.loop-rung.rung-index c.args.ladder.now ≡ c.args.ladder.now = take_all c.loop-rung.rung-index c.args.ladder.now c.loop-rung-test.false in
    let steps : AreStepsOf c.args.slots.now c.args.ladder.now (to_z w64 c.loop-rung.least-bits) (to_z w64 c.loop-rung.more-bits) c.loop-rung.steps.items =
    subst (λ (rs : List Rung). AreStepsOf c.args.slots.now rs (to_z w64 c.loop-rung.least-bits) (to_z w64 c.loop-rung.more-bits) c.loop-rung.steps.items) all c.loop-rung.invariant.steps in
    record { least = steps.base_is; supply = steps.supply }
