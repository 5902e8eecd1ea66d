use Rattle.std.proofs.Common.{◌≡◌, List, length, get_or, arith, refl, sym, ap, ◌∙◌, subst}
use Rattle.std.specs.List.{All}
use Rattle.std.proofs.lemmas.List.{take_all}
use Rattle.mari_market.specs.declared.market.Order.{Order}
use Rattle.mari_market.specs.Bounds.{Span}
use Rattle.mari_market.specs.Market.{IsValidOrder}
use Rattle.mari_market.specs.Prefix.{bounds_at}
use Rattle.mari_gates.proofs.GateTable.{bounds_in_order}
use Rattle.mari_network.specs.declared.slots.Slot.{Slot}
use Rattle.mari_network.specs.Orders.{no_order, slot_of, slots_of, AreOrderSlots}
use Rattle.mari_network.proofs.Fits.{fine_spans, order_slots_fine}
use Rattle.mari_network.proofs.Lists.{pushed_map}
use Rattle.mari_network.proofs.slots.order_slots.Goals as goal

pub loop-order-preserved : goal.loop-order-preserved
loop-order-preserved c =
    let valid = subst (λ (os : List Order). All (IsValidOrder c.args.market.now.zones (length c.args.market.now.gates)) os)
    (sym c.as_slice-orders.ensures) c.requires.market.orders c.loop-order.order-index no_order c.loop-order-test.true in
    let same = c.states_at-states.ensures.bounds (get_or c.as_slice-orders.result.now c.loop-order.order-index no_order) valid.gate in
    let lo = c.span-least.ensures.least ∙ ap (λ (s : Span). s.lo) same in
    let hi = c.span-least.ensures.greatest ∙ ap (λ (s : Span). s.hi) same in
    pushed_map (λ (o : Order). slot_of (bounds_at c.args.market.now c.args.prefix.now o) o) c.as_slice-orders.result.now c.loop-order.order-index
    no_order c.loop-order.slots.items c.push.new.self.items c.slot_from.result c.loop-order-test.true c.in_ok-push.ensures.items
    c.loop-order.invariant
    (c.slot_from.ensures (bounds_at c.args.market.now c.args.prefix.now (get_or c.as_slice-orders.result.now c.loop-order.order-index no_order)) (sym lo) (sym hi))

pub returns-clause-fine : goal.returns-clause-fine
returns-clause-fine c =
    let made : c.loop-order.slots.items ≡ slots_of (bounds_at c.args.market.now c.args.prefix.now) c.args.market.now.orders =
    c.loop-order.invariant ∙ ap (λ (os : List Order). slots_of (bounds_at c.args.market.now c.args.prefix.now) os)
    (take_all c.loop-order.order-index c.as_slice-orders.result.now (omega (arith, c.loop-order-test.false)) ∙ c.as_slice-orders.ensures) in
    let lists = bounds_in_order c.args.market.now c.args.prefix.now _ _ c.requires.market refl refl in
    subst (λ (slots : List Slot). AreOrderSlots c.args.market.now.zones c.args.market.now.orders slots) (sym made)
    (order_slots_fine (bounds_at c.args.market.now c.args.prefix.now) c.args.market.now.zones (length c.args.market.now.gates) c.args.market.now.orders c.requires.market.orders
    (fine_spans (bounds_at c.args.market.now c.args.prefix.now) c.args.market.now.orders lists))
