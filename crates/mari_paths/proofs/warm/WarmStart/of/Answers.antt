use Rattle.std.proofs.Common.{◌≡◌, ◌<◌, ℕ, List, length, take, sym, ap, ◌∙◌, subst, rules, to_z-of_z, FitsSigned}
use Rattle.std.specs.Int.{w128}
use Rattle.mari_market.specs.Bounds.{Span}
use Rattle.mari_market.specs.declared.market.Order.{Order}
use Rattle.mari_market.specs.Prefix.{bounds_at}
use Rattle.mari_network.specs.declared.slots.Slot.{Slot}
use Rattle.mari_network.specs.Network.{ArePlaces}
use Rattle.mari_network.specs.Orders.{slot_of, slots_of}
use Rattle.mari_network.specs.Slots.{slot_at, IsWithinSlot}
use Rattle.mari_network.proofs.Lists.{zip_long}
use Rattle.mari_paths.specs.Starts.{order_at}
use Rattle.mari_paths.proofs.Bounded.{plain_bounds, slot_is}
use Rattle.mari_paths.proofs.Merits.{started_places}
use Rattle.mari_paths.proofs.warm.WarmStart.of.Goals as goal

pub worth_of-worth-requires-clause-lengths : goal.worth_of-worth-requires-clause-lengths
worth_of-worth-requires-clause-lengths c =
    rw (c.as_slice-slots.ensures.value, c.as_slice-amounts.ensures.value)
    (sym (zip_long IsWithinSlot c.in_ok-begun.begun.slots.items c.in_ok-begun.begun.amounts.items c.in_ok-begun.ensures.filled.within))

pub returns : goal.returns
returns c =
    let m = c.args.market.now in
    let fits : FitsSigned w128 c.worth_of-worth.result = search rules in
    let slots = c.in_ok-begun.begun.slots.items in
    let made : take (length c.args.market.now.orders) c.in_ok-begun.begun.slots.items ≡ slots_of (bounds_at c.args.market.now c.empty_prefix.result) c.args.market.now.orders =
    c.in_ok-begun.ensures.reals ∙ c.in_ok-reals.ensures.slots in
    let is : (k : ℕ) → k < length c.args.market.now.orders
    → slot_at c.in_ok-begun.begun.slots.items k ≡ slot_of (bounds_at c.args.market.now c.empty_prefix.result (order_at c.args.market.now k)) (order_at c.args.market.now k) =
    λ k l. slot_is (bounds_at m c.empty_prefix.result) m slots k l made in
    record {
      filled = c.in_ok-begun.ensures.filled;
      limits = c.in_ok-begun.ensures.limits;
      even = c.in_ok-begun.ensures.even;
      near = c.in_ok-begun.ensures.near;
      worth = to_z-of_z fits ∙ (rw (c.as_slice-slots.ensures.value, c.as_slice-amounts.ensures.value) at c.worth_of-worth.ensures);
      places =
          started_places m c.in_ok-reals.reals.items slots c.in_ok-begun.begun.amounts.items c.in_ok-places.places c.in_ok-reals.ensures.fine c.in_ok-begun.ensures.reals c.in_ok-begun.ensures.filled
          (c.in_ok-places.ensures.on_ladders ∙ ap (λ (os : List Order). length os) c.as_slice-orders.ensures)
          (subst (λ (ss : List Slot). ArePlaces m.zones ss m.borders c.in_ok-places.places) c.deref.ensures.value c.in_ok-places.ensures.places);
      on_ladders = c.in_ok-places.ensures.on_ladders ∙ ap (λ (os : List Order). length os) c.as_slice-orders.ensures;
      margins = rw (sym c.as_slice-slots.ensures.value, sym c.as_slice-amounts.ensures.value) c.in_ok-plain.ensures;
      zones = λ k l. ap (λ (s : Slot). s.zone) (is k l);
      prices = λ k l. ap (λ (s : Slot). s.price) (is k l);
      gated = c.in_ok-gated.ensures;
      plain = λ k plain. is k plain.0 ∙ ap (λ (s : Span). slot_of s (order_at m k)) (plain_bounds m c.empty_prefix.result (order_at m k) plain.1);
    }
