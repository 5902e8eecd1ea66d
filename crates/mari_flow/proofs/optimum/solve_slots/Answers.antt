use Rattle.std.proofs.Common.{◌≡◌, ◌++◌, ℕ, ℤ, pos, List, length, sym, ap, ◌∙◌, subst, get_or}
use lib.ListN.{replicate}
use Rattle.std.specs.List.{All}
use Rattle.mari_network.specs.declared.slots.Slot.{Slot}
use Rattle.mari_network.specs.Slots.{IsRunning}
use Rattle.mari_network.specs.Fits.{IsNetworkSlot}
use Rattle.mari_network.specs.Orders.{IsOrderSlot}
use Rattle.mari_network.proofs.Fits.{slots_ordered, zeros_at, zeros_long}
use Rattle.mari_flow.specs.Starts.{stand_ins_for, lows, offsets}
use Rattle.mari_flow.proofs.Starts.{all_slots, stand_ins_are, starts_running}
use Rattle.mari_flow.proofs.optimum.solve_slots.Goals as goal

all_fit : (n : ℕ) (reals all : List Slot) → All (IsOrderSlot n) reals → all ≡ reals ++ stand_ins_for reals → All (IsNetworkSlot n) all
all_fit n reals all fine made = subst (λ (ss : List Slot). All (IsNetworkSlot n) ss) (sym made) (all_slots n reals fine)

pub places_of-requires-clause-slots : goal.places_of-requires-clause-slots
places_of-requires-clause-slots c = all_fit c.args.market.now.zones c.args.reals.now c.as_slice-slots.result.now c.requires.reals.fine (c.as_slice-slots.ensures.value ∙ c.in_ok-all.ensures)

pub network_of-network-requires-clause-slots : goal.network_of-network-requires-clause-slots
network_of-network-requires-clause-slots c = all_fit c.args.market.now.zones c.args.reals.now c.as_slice-slots.result.now c.requires.reals.fine (c.as_slice-slots.ensures.value ∙ c.in_ok-all.ensures)

pub run-requires-clause-runs : goal.run-requires-clause-runs
run-requires-clause-runs c =
    let n = length c.network_of-network.result.meeting.now in
    let bs = c.network_of-network.result.borders.now in
    let made : c.network_of-network.result.slots.now ≡ c.args.reals.now ++ stand_ins_for c.args.reals.now = c.network_of-network.ensures.slots ∙ c.as_slice-slots.ensures.value ∙ c.in_ok-all.ensures in
    let amounts : c.deref_mut.result.now ≡ lows c.args.reals.now ++ offsets c.args.reals.now = c.deref_mut.ensures.value ∙ c.in_ok-amounts.ensures in
    let flows : c.deref_mut-2.result.now ≡ replicate (length c.network_of-network.result.borders.now) (pos 0) = c.deref_mut-2.ensures.value ∙ c.in_ok-flows.ensures.items_if_clones_equal (λ y q. q) in
    let long : length c.network_of-network.result.borders.now ≡ length c.deref_mut-2.result.now =
    sym (ap (λ (fs : List ℤ). length fs) flows ∙ zeros_long (length c.network_of-network.result.borders.now)) in
    subst (λ (ss : List Slot). IsRunning n ss bs c.deref_mut.result.now c.deref_mut-2.result.now) (sym made)
    (subst (λ (xs : List ℤ). IsRunning n (c.args.reals.now ++ stand_ins_for c.args.reals.now) bs xs c.deref_mut-2.result.now) (sym amounts)
    (starts_running n c.args.reals.now bs c.deref_mut-2.result.now (slots_ordered c.args.market.now.zones c.args.reals.now c.requires.reals.fine) long
    (λ k. ap (λ (fs : List ℤ). get_or fs k (pos 0)) flows ∙ zeros_at (length c.network_of-network.result.borders.now) k)))

pub returns : goal.returns
returns c = λ spans e.
    let made : c.network_of-network.result.slots.now ≡ c.args.reals.now ++ stand_ins_for c.args.reals.now = c.network_of-network.ensures.slots ∙ c.as_slice-slots.ensures.value ∙ c.in_ok-all.ensures in
    c.answer.ensures spans (stand_ins_for c.args.reals.now) (record { made = made ∙ ap (λ (ss : List Slot). ss ++ stand_ins_for c.args.reals.now) e; others = stand_ins_are c.args.reals.now })
