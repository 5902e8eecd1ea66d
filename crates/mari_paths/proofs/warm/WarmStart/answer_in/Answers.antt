use Rattle.std.proofs.Common.{◌≡◌, ◌<◌, ◌∙◌, ℤ, length, drop, sym, subst, arith, inl, inr, to_z-of_z, FitsSigned}
use Rattle.std.specs.Prelude.{is_some}
use Rattle.std.specs.Int.{w128}
use Rattle.std.proofs.lemmas.Bool.{cases_Bool}
use Rattle.std.proofs.lemmas.List.{with_items_is}
use Rattle.mari_market.specs.Prefix.{bounds_at}
use Rattle.mari_market.specs.Sums.{sum_along}
use Rattle.mari_network.specs.Slots.{slot_at, slot_gain}
use Rattle.mari_paths.specs.Starts.{order_at, AreEven}
use Rattle.mari_paths.proofs.Bounded.{not_gated}
use Rattle.mari_paths.proofs.Changed.{filled_worth}
use Rattle.mari_paths.proofs.Starts.{filled_long, filled_runs, filled_sides, filled_slots}
use Rattle.mari_paths.proofs.warm.WarmStart.answer_in.Goals as goal

pub network_of-network-requires-clause-sides : goal.network_of-network-requires-clause-sides
network_of-network-requires-clause-sides c = filled_sides c.args.market.now c.set_bounds.new.slots c.set_bounds.new.amounts c.set_bounds.ensures.filled

pub solve_network-found-requires-clause-runs : goal.solve_network-found-requires-clause-runs
solve_network-found-requires-clause-runs c =
    let slots : c.network_of-network.result.slots.now ≡ c.set_bounds.new.slots = c.network_of-network.ensures.slots in
    let amounts = with_items_is c.in_ok-amounts.amounts c.set_bounds.new.amounts (c.set_bounds.auto.amounts ∙ c.deref_mut.ensures.len) in
    let flows : c.in_ok-flows.flows.items ≡ c.args.self.now.flows.items = c.in_ok-flows.ensures.items ∙ c.as_slice-2.ensures.value in
    let even : AreEven c.args.market.now c.set_bounds.new.slots c.set_bounds.new.amounts c.args.self.now.flows.items = λ z l.
    rw (c.requires.slots, c.deref_mut.ensures.value, c.in_ok-amounts.ensures.items, c.as_slice.ensures.value) at c.set_bounds.ensures.into z
    ∙ c.requires.warm.even z l in
    rw (slots, amounts, flows, c.network_of-network.ensures.same.zones, c.network_of-network.ensures.same.borders)
    (filled_runs c.args.market.now c.set_bounds.new.slots c.set_bounds.new.amounts c.args.self.now.flows.items c.set_bounds.ensures.filled c.requires.warm.limits even)

pub solve_network-found-requires-clause-long : goal.solve_network-found-requires-clause-long
solve_network-found-requires-clause-long c =
    let amounts = with_items_is c.in_ok-amounts.amounts c.set_bounds.new.amounts (c.set_bounds.auto.amounts ∙ c.deref_mut.ensures.len) in
    rw amounts (filled_long c.args.market.now c.set_bounds.new.slots c.set_bounds.new.amounts c.set_bounds.ensures.filled)

pub solve_network-found-requires-clause-worth : goal.solve_network-found-requires-clause-worth
solve_network-found-requires-clause-worth c =
    let slots : c.network_of-network.result.slots.now ≡ c.set_bounds.new.slots = c.network_of-network.ensures.slots in
    let amounts = with_items_is c.in_ok-amounts.amounts c.set_bounds.new.amounts (c.set_bounds.auto.amounts ∙ c.deref_mut.ensures.len) in
    let worth : c.set_bounds.new.worth ≡ sum_along slot_gain c.set_bounds.new.slots c.set_bounds.new.amounts = c.set_bounds.ensures.worth in
    let fits : FitsSigned w128 c.set_bounds.new.worth =
    subst (λ (x : ℤ). FitsSigned w128 x) (sym worth) (filled_worth c.args.market.now c.set_bounds.new.slots c.set_bounds.new.amounts c.requires.market c.set_bounds.ensures.filled) in
    rw (to_z-of_z fits, slots, amounts) worth

pub solve_network-found-requires-clause-margins : goal.solve_network-found-requires-clause-margins
solve_network-found-requires-clause-margins c =
    let slots : c.network_of-network.result.slots.now ≡ c.set_bounds.new.slots = c.network_of-network.ensures.slots in
    let amounts = with_items_is c.in_ok-amounts.amounts c.set_bounds.new.amounts (c.set_bounds.auto.amounts ∙ c.deref_mut.ensures.len) in
    let margins = with_items_is c.in_ok-margins.margins c.set_bounds.new.margins (c.set_bounds.auto.margins ∙ c.deref_mut-2.ensures.len) in
    let ladders : c.network_of-network.result.on_ladders ≡ length c.args.market.now.orders = c.network_of-network.ensures.on_ladders ∙ c.requires.warm.on_ladders in
    rw (slots, amounts, c.network_of-network.ensures.same.zones, ladders, margins) c.set_bounds.ensures.margins

pub put_back-requires-clause-rest : goal.put_back-requires-clause-rest
put_back-requires-clause-rest c = λ k l.
    let m = c.args.market.now in
    let there : k < length c.args.market.now.orders = omega (arith, c.requires.warm.on_ladders, l) in
    elim (cases_Bool (is_some (order_at c.args.market.now k).gate)) [
      | inl e ↦ inl (rw c.as_slice-gated.ensures.value (c.requires.warm.gated.all k there e))
      | inr e ↦
          let same : slot_at c.set_bounds.new.slots k ≡ slot_at c.args.slots.now k = c.set_bounds.ensures.others k there
          (rw c.as_slice-gated.ensures.value (not_gated m c.args.self.now.gated.items k c.requires.warm.gated (there, e))) in
          inr (rw (c.as_slice-4.ensures.value, sym c.requires.slots) same)
    ]

pub returns-clause-found : goal.returns-clause-found
returns-clause-found c =
    let slots : c.network_of-network.result.slots.now ≡ c.set_bounds.new.slots = c.network_of-network.ensures.slots in
    c.solve_network-found.ensures (bounds_at c.args.market.now c.args.prefix.now) (drop (length c.args.market.now.orders) c.set_bounds.new.slots)
    (rw slots (filled_slots (bounds_at c.args.market.now c.args.prefix.now) c.args.market.now c.set_bounds.new.slots c.set_bounds.new.amounts c.set_bounds.ensures.filled c.set_bounds.ensures.orders))
