use Rattle.std.proofs.Common.{◌∙◌, List, ap, length, drop, subst}
use Rattle.mari_market.specs.declared.market.Order.{Order}
use Rattle.mari_network.specs.declared.slots.Slot.{Slot}
use Rattle.mari_network.specs.Network.{ArePlaces}
use Rattle.mari_paths.proofs.Merits.{started_places}
use Rattle.mari_paths.proofs.Starts.{filled_long, filled_runs, filled_slots}
use Rattle.mari_paths.proofs.optimum.solve_reals.Goals as goal

pub solve_slots-requires-clause-runs : goal.solve_slots-requires-clause-runs
solve_slots-requires-clause-runs c =
    let s = c.in_ok-begun.ensures in
    rw c.deref-2.ensures.value
    (filled_runs c.args.market.now c.in_ok-begun.begun.slots.items c.in_ok-begun.begun.amounts.items c.in_ok-begun.begun.flows.items s.filled s.limits s.even)

pub solve_slots-requires-clause-places : goal.solve_slots-requires-clause-places
solve_slots-requires-clause-places c =
    let m = c.args.market.now in
    rw c.deref-2.ensures.value
    (started_places m c.args.reals.items c.in_ok-begun.begun.slots.items c.in_ok-begun.begun.amounts.items c.in_ok-places.places c.requires.reals c.in_ok-begun.ensures.reals
    c.in_ok-begun.ensures.filled
    (c.in_ok-places.ensures.on_ladders ∙ ap (λ (os : List Order). length os) c.as_slice-orders.ensures)
    (subst (λ (ss : List Slot). ArePlaces m.zones ss m.borders c.in_ok-places.places) c.deref.ensures.value c.in_ok-places.ensures.places))

pub solve_slots-requires-clause-long : goal.solve_slots-requires-clause-long
solve_slots-requires-clause-long c = filled_long c.args.market.now c.in_ok-begun.begun.slots.items c.in_ok-begun.begun.amounts.items c.in_ok-begun.ensures.filled

pub returns : goal.returns
returns c = λ spans e.
    c.solve_slots.ensures spans (drop (length c.args.market.now.orders) c.in_ok-begun.begun.slots.items)
    (rw c.deref-2.ensures.value (filled_slots spans c.args.market.now c.in_ok-begun.begun.slots.items c.in_ok-begun.begun.amounts.items c.in_ok-begun.ensures.filled (c.in_ok-begun.ensures.reals ∙ e)))
