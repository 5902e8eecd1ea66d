use Rattle.std.proofs.Common.{◌≡◌, ◌<◌, ℕ, length, arith, sym, ap, ◌∙◌, inl, inr}
use Rattle.std.specs.Prelude.{is_some}
use Rattle.std.proofs.lemmas.Bool.{cases_Bool}
use Rattle.mari_market.specs.Bounds.{Span}
use Rattle.mari_market.specs.Prefix.{bounds_at}
use Rattle.mari_network.specs.declared.slots.Slot.{Slot}
use Rattle.mari_network.specs.Orders.{slot_of}
use Rattle.mari_network.specs.Slots.{price_of}
use Rattle.mari_network.proofs.Gathered.{these_stay}
use Rattle.mari_network.proofs.Rungs.{places_stay}
use Rattle.mari_paths.specs.Starts.{order_at}
use Rattle.mari_paths.specs.Warm.{IsPlain}
use Rattle.mari_paths.proofs.Bounded.{plain_bounds, not_gated, slot_is}
use Rattle.mari_paths.proofs.changes.set_bounds.Goals as goal

pub change_slots-requires-clause-rest : goal.change_slots-requires-clause-rest
change_slots-requires-clause-rest c = λ k l.
    let m = c.args.market.now in
    elim (cases_Bool (is_some (order_at c.args.market.now k).gate)) [
      | inl e ↦ inl (c.requires.gated.all k l e)
      | inr e ↦ inr (c.requires.plain k (l, e) ∙ sym (ap (λ (s : Span). slot_of s (order_at c.args.market.now k)) (plain_bounds m c.args.prefix.now (order_at c.args.market.now k) e)))
    ]

pub complete_margins-requires-clause-margins : goal.complete_margins-requires-clause-margins
complete_margins-requires-clause-margins c =
    let m = c.args.market.now in
    these_stay (IsPlain m) c.args.slots.now c.change_slots.new.slots c.args.amounts.now c.change_slots.new.amounts c.args.market.now.zones c.args.margins.now
    c.change_slots.auto.slots c.change_slots.ensures.zones
    (λ k plain. (c.change_slots.ensures.others k plain.0 (not_gated m c.args.gated.now k c.requires.gated plain)).0)
    (λ k plain. (c.change_slots.ensures.others k plain.0 (not_gated m c.args.gated.now k c.requires.gated plain)).1) c.requires.margins

pub returns-clause-places : goal.returns-clause-places
returns-clause-places c = λ places on a.
    let m = c.args.market.now in
    let prices : (k : ℕ) → k < places.on_ladders → price_of c.change_slots.new.slots k ≡ price_of c.args.slots.now k = λ k l.
    let there : k < length c.args.market.now.orders = omega (arith, on, l) in
    ap (λ (s : Slot). s.price) (slot_is (bounds_at c.args.market.now c.args.prefix.now) m c.change_slots.new.slots k there c.change_slots.ensures.orders) ∙ sym (c.requires.prices k there) in
    places_stay m.zones c.args.slots.now c.change_slots.new.slots m.borders places c.change_slots.auto.slots c.change_slots.ensures.zones prices a
