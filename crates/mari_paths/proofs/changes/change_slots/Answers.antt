use Rattle.std.proofs.Common.{◌≡◌, ◌≢◌, ◌+◌, ◌*◌, ℕ, length, refl, sym, ◌∙◌, subst, arith, inl, inr, get_or}
use Rattle.std.proofs.lemmas.Bool.{cases_eq}
use Rattle.std.proofs.lemmas.List.{get_or_default}
use Rattle.mari_market.specs.Bounds.{span_in}
use Rattle.mari_gates.specs.GateTable.{state_in}
use Rattle.mari_network.specs.declared.slots.Slot.{Slot}
use Rattle.mari_network.specs.Orders.{no_order}
use Rattle.mari_network.specs.Slots.{slot_at}
use Rattle.mari_market.specs.Prefix.{bounds_at}
use Rattle.mari_market.specs.Sums.{int_at}
use Rattle.mari_paths.specs.Starts.{order_at, FitsOrder}
use Rattle.mari_paths.proofs.Bounded.{slot_in, order_fits, slots_are, slot_made, gate_fits, all_ahead, still_ahead}
use Rattle.mari_paths.proofs.Shortages.{near_wider}
use Rattle.mari_paths.proofs.changes.change_slots.Goals as goal

pub change_slot-requires-clause-slot : goal.change_slot-requires-clause-slot
change_slot-requires-clause-slot c =
    let m = c.args.market.now in
    let p = get_or c.args.gated.now c.loop-place.place-index 0 in
    let there = c.requires.there c.loop-place.place-index 0 c.loop-place-test.true in
    let order = get_or c.as_slice-orders.result.now p no_order in
    let is : c.slot_from-slot.result ≡ slot_in c.args.market.now c.args.prefix.now (get_or c.args.gated.now c.loop-place.place-index 0) =
    slot_made m c.args.prefix.now c.as_slice-orders.result.now p _ _ (span_in (state_in c.states_at-states.result) order) c.slot_from-slot.result c.as_slice-orders.ensures
    (c.states_at-states.ensures.bounds order (gate_fits m c.as_slice-orders.result.now p c.requires.market c.as_slice-orders.ensures there)) c.span-least.ensures.least c.span-least.ensures.greatest
    c.slot_from-slot.ensures in
    subst (λ (s : Slot). FitsOrder c.args.market.now.zones (order_at c.args.market.now (get_or c.args.gated.now c.loop-place.place-index 0)) s) (sym is)
    (order_fits m c.args.prefix.now p c.requires.market there)

pub change_slot-requires-clause-near : goal.change_slot-requires-clause-near
change_slot-requires-clause-near c = λ z l.
    let few = c.requires.market.few_orders in
    near_wider (700000000 + 200000 * c.loop-place.place-index) 2000000000 (int_at c.loop-place.amounts (length c.args.market.now.orders + z)) (c.loop-place.invariant.near z l)
    (omega (arith, few, c.requires.few, c.loop-place-test.true))

pub loop-place-init : goal.loop-place-init
loop-place-init c = record {
  filled = c.requires.filled;
  near = c.requires.near;
  worth = c.requires.worth;
  into = λ z. refl;
  zones = λ k. refl;
  rest = λ k l. elim (c.requires.rest k l) [
    | inl h ↦ inl (all_ahead c.args.gated.now k h)
    | inr h ↦ inr h
  ];
  others = λ k l none. (refl, refl);
}

pub loop-place-preserved : goal.loop-place-preserved
loop-place-preserved c =
    let m = c.args.market.now in
    let p = get_or c.args.gated.now c.loop-place.place-index 0 in
    let there = c.requires.there c.loop-place.place-index 0 c.loop-place-test.true in
    let order = get_or c.as_slice-orders.result.now p no_order in
    let is : c.slot_from-slot.result ≡ slot_in c.args.market.now c.args.prefix.now (get_or c.args.gated.now c.loop-place.place-index 0) =
    slot_made m c.args.prefix.now c.as_slice-orders.result.now p _ _ (span_in (state_in c.states_at-states.result) order) c.slot_from-slot.result c.as_slice-orders.ensures
    (c.states_at-states.ensures.bounds order (gate_fits m c.as_slice-orders.result.now p c.requires.market c.as_slice-orders.ensures there)) c.span-least.ensures.least c.span-least.ensures.greatest
    c.slot_from-slot.ensures in
    let here : slot_at c.change_slot.new.slots p ≡ slot_in m c.args.prefix.now p = c.change_slot.ensures.here ∙ is in
    let all = c.change_slot.ensures in
    record {
      filled = all.filled;
      near = λ z l. near_wider (700000000 + 200000 * c.loop-place.place-index + 200000) (700000000 + 200000 * (c.loop-place.place-index + 1))
          (int_at c.change_slot.new.amounts (length c.args.market.now.orders + z))
          (all.near (700000000 + 200000 * c.loop-place.place-index) c.loop-place.invariant.near z l) (omega arith);
      worth = all.worth;
      into = λ z. all.into z ∙ c.loop-place.invariant.into z;
      zones = λ k. all.zones k ∙ c.loop-place.invariant.zones k;
      rest = λ k l. elim (cases_eq k p) [
        | inl e ↦ inr (subst (λ (j : ℕ). slot_at c.change_slot.new.slots j ≡ slot_in m c.args.prefix.now j) (sym e) here)
        | inr other ↦ elim (c.loop-place.invariant.rest k l) [
          | inl h ↦ inl (still_ahead c.args.gated.now c.loop-place.place-index k other h)
          | inr h ↦ inr (all.others k l other ∙ h)
        ]
      ];
      others = λ k l none.
          let apart : k ≢ p = λ e. none (c.loop-place.place-index, c.loop-place-test.true, get_or_default c.args.gated.now c.loop-place.place-index k 0 c.loop-place-test.true ∙ sym e) in
          let before = c.loop-place.invariant.others k l none in
          (all.others k l apart ∙ before.0, all.amounts k l apart ∙ before.1);
    }

pub returns-clause-orders : goal.returns-clause-orders
returns-clause-orders c =
    let m = c.args.market.now in
    slots_are (bounds_at m c.args.prefix.now) m c.loop-place.slots (omega (arith, c.loop-place.invariant.filled.long))
    (λ k l. elim (c.loop-place.invariant.rest k l) [
      | inl h ↦ absurd (omega (arith, h.1, h.2, c.loop-place-test.false))
      | inr h ↦ h
    ])
