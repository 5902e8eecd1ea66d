use Rattle.std.proofs.Common.{◌≡◌, ◌<◌, ◌≤ℤ◌, ℕ, Bool, not, to_z-of_z, sym, ◌∙◌, FitsSigned, w64, arith, subst, List, length, refl, Some, None}
use Rattle.std.specs.Prelude.{count_by}
use Rattle.std.proofs.lemmas.Int.{ints}
use Rattle.mari_network.specs.declared.chain.Hop.{Hop}
use Rattle.mari_market.specs.Sums.{int_at}
use Rattle.mari_network.specs.Slots.{no_slot, slot_at, zone_of, price_of, IsSmallSlot}
use Rattle.std.specs.List.{All}
use Rattle.mari_market.specs.Market.{IsBetween}
use Rattle.mari_network.specs.Chain.{hop_at}
use Rattle.mari_network.specs.Levels.{AreLevels}
use Rattle.mari_network.specs.Margins.{cheapest_at, IsDearestOf, IsDearest, IsSource, NoneLess, NoneCheaper}
use Rattle.mari_network.specs.Searching.{AreUnmarked}
use Rattle.mari_network.specs.Spread.{IsSpread}
use Rattle.mari_network.proofs.Lists.{all_zip}
use Rattle.mari_network.proofs.Levels.{IsLevel, levels_more, levels_tight, level_of, low_at}
use Rattle.mari_network.proofs.Marks.{marked_below}
use Rattle.mari_network.proofs.Marginal.{dearest_is, dearest_none}
use Rattle.mari_network.proofs.Resumed.{none_at_level}
use Rattle.mari_network.proofs.search.chain_by_levels.Goals as goal

pub next_sink-requires-clause-there : goal.next_sink-requires-clause-there
next_sink-requires-clause-there c = λ z i l e.
    let mar = c.requires.margins in
    ((mar.dearest z (omega (arith, mar.long))).one i e).0.0

pub cheapest-requires-clause-zones : goal.cheapest-requires-clause-zones
cheapest-requires-clause-zones c =
    subst (λ (hops : List Hop). (k : ℕ) → k < length hops → (hop_at hops k).zone < length c.args.margins.now) (sym c.deref.ensures.value)
    (λ k l. omega (arith, c.requires.margins.long, marked_below c.spread.new.marked (hop_at c.spread.new.hops.items k).zone (c.in_ok-spread.ensures.spread.zones k l).0))

pub cheapest-requires-clause-there : goal.cheapest-requires-clause-there
cheapest-requires-clause-there c = λ z i l e.
    let mar = c.requires.margins in
    ((mar.cheapest z (omega (arith, mar.long))).one i e).0.0

pub take_back-requires : goal.take_back-requires
take_back-requires c = record {
  zones =
      subst (λ (hops : List Hop). (k : ℕ) → k < length hops → (hop_at hops k).zone < length c.spread.new.marked) (sym c.deref-in-Some-cheapest.ensures.value)
      (λ k l. marked_below c.spread.new.marked (hop_at c.spread.new.hops.items k).zone (c.in_ok-spread.ensures.spread.zones k l).0);
}

pub returns-in-Some-cheapest-clause-found : goal.returns-in-Some-cheapest-clause-found
returns-in-Some-cheapest-clause-found c =
    let slots = c.args.network.now.slots.now in
    let mar = c.requires.margins in
    let zoned : (k : ℕ) → k < length slots → zone_of slots k < length c.args.network.now.meeting.now = λ k l. c.requires.network.zones k no_slot l in
    let d : IsDearest slots c.args.amounts.now c.loop-sink.marked c.in-Some.sink = dearest_is slots c.args.amounts.now (length c.args.network.now.meeting.now) c.args.margins.now c.loop-sink.marked
    c.in-Some.sink zoned mar (subst (λ (n : ℕ). IsDearestOf slots c.args.margins.now c.loop-sink.marked n (Some c.in-Some.sink)) mar.long c.in-Some.ensures.dearest) in
    let small : IsSmallSlot (slot_at slots c.in-Some.sink) = c.requires.network.small c.in-Some.sink no_slot d.less.0 in
    let p : FitsSigned w64 (price_of slots c.in-Some.sink) = omega (arith, ints, small.cheap, small.dear) in
    let source : IsSource slots c.args.margins.now c.spread.new.hops.items (price_of slots c.in-Some.sink) c.in-Some-cheapest.source =
    rw (c.deref.ensures.value, to_z-of_z p) at c.in-Some-cheapest.ensures.some in
    let s = c.in_ok-spread.ensures.spread in
    let zone : (hop_at c.spread.new.hops.items c.in-Some-cheapest.source.at).zone < length c.args.network.now.meeting.now =
    omega (arith, marked_below c.spread.new.marked _ (s.zones c.in-Some-cheapest.source.at source.there).0) in
    let one = (mar.cheapest (hop_at c.spread.new.hops.items c.in-Some-cheapest.source.at).zone zone).one c.in-Some-cheapest.source.slot source.cheapest in
    record {
      trace = s.trace;
      there = source.there;
      less = d.less;
      more = one.0;
      to = sym s.first;
      from = one.1;
      dearer = source.below;
      room = s.room c.in-Some-cheapest.source.at source.there;
    }

pub returns-in-Some-cheapest-clause-levels : goal.returns-in-Some-cheapest-clause-levels
returns-in-Some-cheapest-clause-levels c =
    let bs = c.args.network.now.borders.now in
    let spread = subst (λ (hops : List Hop). IsSpread bs c.args.flows.now c.loop-sink.marked (zone_of c.args.network.now.slots.now c.in-Some.sink) c.spread.new.marked hops)
    (sym c.deref-in-Some-cheapest.ensures.value) c.in_ok-spread.ensures.spread in
    subst (λ (marked : List Bool). AreLevels c.args.network.now.slots.now bs c.args.amounts.now c.args.flows.now marked (int_at c.loop-sink.prices))
    (c.take_back.ensures bs c.args.flows.now c.loop-sink.marked _ spread c.loop-sink.invariant.left)
    c.loop-sink.invariant.levels

pub returns-in-Some-cheapest-clause-left : goal.returns-in-Some-cheapest-clause-left
returns-in-Some-cheapest-clause-left c =
    let bs = c.args.network.now.borders.now in
    let spread = subst (λ (hops : List Hop). IsSpread bs c.args.flows.now c.loop-sink.marked (zone_of c.args.network.now.slots.now c.in-Some.sink) c.spread.new.marked hops)
    (sym c.deref-in-Some-cheapest.ensures.value) c.in_ok-spread.ensures.spread in
    subst (λ (marked : List Bool). c.loop-sink.left ≡ count_by not marked)
    (c.take_back.ensures bs c.args.flows.now c.loop-sink.marked _ spread c.loop-sink.invariant.left)
    c.loop-sink.invariant.left

pub returns-in-Some-cheapest-clause-unmarked : goal.returns-in-Some-cheapest-clause-unmarked
returns-in-Some-cheapest-clause-unmarked c =
    let bs = c.args.network.now.borders.now in
    let spread = subst (λ (hops : List Hop). IsSpread bs c.args.flows.now c.loop-sink.marked (zone_of c.args.network.now.slots.now c.in-Some.sink) c.spread.new.marked hops)
    (sym c.deref-in-Some-cheapest.ensures.value) c.in_ok-spread.ensures.spread in
    subst (λ (marked : List Bool). AreUnmarked marked c.spread.new.hops.items)
    (c.take_back.ensures bs c.args.flows.now c.loop-sink.marked _ spread c.loop-sink.invariant.left)
    (λ k l. (c.in_ok-spread.ensures.spread.zones k l).1)

pub loop-sink-preserved : goal.loop-sink-preserved
loop-sink-preserved c =
    let slots = c.args.network.now.slots.now in
    let mar = c.requires.margins in
    let zoned : (k : ℕ) → k < length slots → zone_of slots k < length c.args.network.now.meeting.now = λ k l. c.requires.network.zones k no_slot l in
    let d : IsDearest slots c.args.amounts.now c.loop-sink.marked c.in-Some.sink = dearest_is slots c.args.amounts.now (length c.args.network.now.meeting.now) c.args.margins.now c.loop-sink.marked
    c.in-Some.sink zoned mar (subst (λ (n : ℕ). IsDearestOf slots c.args.margins.now c.loop-sink.marked n (Some c.in-Some.sink)) mar.long c.in-Some.ensures.dearest) in
    let small : IsSmallSlot (slot_at slots c.in-Some.sink) = c.requires.network.small c.in-Some.sink no_slot d.less.0 in
    let p : FitsSigned w64 (price_of slots c.in-Some.sink) = omega (arith, ints, small.cheap, small.dear) in
    let cheaper : (k j : ℕ) → k < length c.spread.new.hops.items → cheapest_at c.args.margins.now (hop_at c.spread.new.hops.items k).zone ≡ Some j → price_of slots c.in-Some.sink ≤ℤ price_of slots j =
    rw (c.deref.ensures.value, to_z-of_z p) at (c.in_default-cheapest.ensures.none refl) in
    let none : NoneCheaper slots c.args.amounts.now c.spread.new.marked (price_of slots c.in-Some.sink) =
    none_at_level slots c.args.network.now.borders.now c.args.amounts.now c.args.flows.now c.args.margins.now (length c.args.network.now.meeting.now) c.loop-sink.marked c.spread.new.marked
    (int_at c.loop-sink.prices) c.spread.new.hops.items _ c.in-Some.sink
    zoned mar c.loop-sink.invariant.levels d c.in_ok-spread.ensures.spread cheaper in
    let priced : IsLevel c.loop-sink.marked c.spread.new.marked (int_at c.loop-sink.prices) (int_at c.level.new.prices) (price_of slots c.in-Some.sink) =
    level_of c.args.network.now.borders.now c.args.flows.now c.loop-sink.marked c.spread.new.marked c.spread.new.hops.items _ c.loop-sink.prices c.level.new.prices
    (price_of slots c.in-Some.sink) c.in_ok-spread.ensures.spread
    (subst (λ (hops : List Hop). (k : ℕ) → k < length hops → int_at c.level.new.prices (hop_at hops k).zone ≡ price_of slots c.in-Some.sink) c.deref-in-Some.ensures.value
    (λ k l. c.level.ensures.here k l ∙ to_z-of_z p))
    (subst (λ (hops : List Hop). (z : ℕ) → ((k : ℕ) → k < length hops → (hop_at hops k).zone ≡ z → ⊥) → int_at c.level.new.prices z ≡ int_at c.loop-sink.prices z) c.deref-in-Some.ensures.value
    c.level.ensures.others) in
    record {
      levels =
          levels_more slots c.args.network.now.borders.now c.args.amounts.now c.args.flows.now c.loop-sink.marked c.spread.new.marked
          (int_at c.loop-sink.prices) (int_at c.level.new.prices) c.in-Some.sink c.loop-sink.invariant.levels d small.cheap priced
          c.in_ok-spread.ensures.spread.keeps c.in_ok-spread.ensures.closed none;
      left = omega (arith, c.in_ok-spread.ensures.spread.count, c.loop-sink.invariant.left);
    }

pub level-requires : goal.level-requires
level-requires c = record {
  zones =
      subst (λ (hops : List Hop). (k : ℕ) → k < length hops → (hop_at hops k).zone < length c.loop-sink.prices) (sym c.deref-in-Some.ensures.value)
      (λ k l. omega (arith, marked_below c.spread.new.marked (hop_at c.spread.new.hops.items k).zone (c.in_ok-spread.ensures.spread.zones k l).0));
}

pub returns-clause-found : goal.returns-clause-found
returns-clause-found c =
    let mar = c.requires.margins in
    let zoned : (k : ℕ) → k < length c.args.network.now.slots.now → zone_of c.args.network.now.slots.now k < length c.args.network.now.meeting.now = λ k l. c.requires.network.zones k no_slot l in
    let none : NoneLess c.args.network.now.slots.now c.args.amounts.now c.loop-sink.marked =
    dearest_none c.args.network.now.slots.now c.args.amounts.now (length c.args.network.now.meeting.now) c.args.margins.now c.loop-sink.marked zoned mar
    (subst (λ (n : ℕ). IsDearestOf c.args.network.now.slots.now c.args.margins.now c.loop-sink.marked n None) mar.long c.in_default.ensures.dearest) in
    let marks : length c.loop-sink.marked ≡ length c.args.network.now.meeting.now = omega arith in
    record {
      one_each = omega arith;
      least = λ z l. low_at c.loop-sink.marked (int_at c.loop-sink.prices) (int_at c.level_rest.new.prices) _
          (record { keep = c.level_rest.ensures.keep; level = λ z m l. c.level_rest.ensures.level z m l }) c.loop-sink.invariant.levels.floored z (omega arith);
      tight =
          levels_tight c.args.network.now.slots.now c.args.network.now.borders.now c.args.amounts.now c.args.flows.now c.loop-sink.marked
          (int_at c.loop-sink.prices) (int_at c.level_rest.new.prices) c.loop-sink.invariant.levels
          (record { keep = c.level_rest.ensures.keep; level = λ z m l. c.level_rest.ensures.level z m l }) none
          (λ k h. subst (λ (n : ℕ). zone_of c.args.network.now.slots.now k < n) (sym marks) (zoned k h))
          (λ k h. (c.requires.network.small k no_slot h).cheap)
          (all_zip (IsBetween (length c.loop-sink.marked)) c.args.network.now.borders.now c.args.flows.now (sym c.requires.runs.flows_long)
          (subst (λ (n : ℕ). All (IsBetween n) c.args.network.now.borders.now) (sym marks) c.requires.network.ends));
    }
