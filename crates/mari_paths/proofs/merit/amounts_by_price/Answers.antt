use Rattle.std.proofs.Common.{◌≡◌, ◌≢◌, ◌<◌, ◌+◌, ◌++◌, ℕ, ℤ, ◌+ℤ◌, List, Vec, Global, length, take, drop, get_or, to_z, of_z, to_z-of_z, FitsSigned, w64, arith, rules, ap, sym, subst, ◌∙◌}
use Rattle.std.proofs.lemmas.List.{get_or_read}
use Rattle.std.proofs.Math.Seq.{take-append_seam}
use Rattle.std.specs.List.{All, AllZip}
use Rattle.mari_market.specs.Sums.{int_at}
use Rattle.mari_market.proofs.Sums.{AllZip-at}
use Rattle.mari_network.specs.declared.network.Rung.{Rung}
use Rattle.mari_network.specs.declared.slots.Slot.{Slot}
use Rattle.mari_network.specs.Slots.{slot_at, IsWithinSlot}
use Rattle.mari_network.proofs.Lists.{zip_long}
use Rattle.mari_paths.specs.declared.curves.Curve.{Curve}
use Rattle.mari_paths.specs.declared.merit.Reach.{Reach}
use Rattle.mari_paths.specs.Merit.{no_reach, reach_at, least_of, supplied_by_all, supply_of_all, IsBalancing, IsByMerit, IsCurveOf, IsMeritOrder, IsReach, IsReachOf}
use Rattle.mari_paths.proofs.OnePrice.{all_run, balances, merit_of_curve, zone_more, AreZonesRun}
use Rattle.mari_paths.proofs.merit.amounts_by_price.Goals as goal

pub balancing_price-price-requires-clause-few : goal.balancing_price-price-requires-clause-few
balancing_price-price-requires-clause-few c =
    omega (
      arith,
      ap (λ (cs : List Curve). length cs) c.deref.ensures.value,
      zip_long (λ (v : Vec Rung Global) (k : Curve). IsCurveOf c.args.slots.now v.items k) c.args.ladders.now c.in_ok-curves.curves.items c.in_ok-curves.ensures.each,
      c.requires.long,
      c.requires.market.zones,
    )

pub index-requires : goal.index-requires
index-requires c =
    let long = ap (λ (cs : List Curve). length cs) c.deref-curve-items.ensures.value in
    let same = zip_long (λ (v : Vec Rung Global) (k : Curve). IsCurveOf c.args.slots.now v.items k) c.args.ladders.now c.in_ok-curves.curves.items c.in_ok-curves.ensures.each in
    omega (arith, long, same, c.loop-zone-test.true, c.requires.long, c.in_ok-reaches.ensures.long, c.in_ok-reaches.reaches.ok.0)

pub bounds-ladders-zone : goal.bounds-ladders-zone
bounds-ladders-zone c =
    let long = ap (λ (cs : List Curve). length cs) c.deref-curve-items.ensures.value in
    let same = zip_long (λ (v : Vec Rung Global) (k : Curve). IsCurveOf c.args.slots.now v.items k) c.args.ladders.now c.in_ok-curves.curves.items c.in_ok-curves.ensures.each in
    omega (arith, long, same, c.loop-zone-test.true)

pub more_at-more-requires-clause-reach : goal.more_at-more-requires-clause-reach
more_at-more-requires-clause-reach c =
    let long = ap (λ (cs : List Curve). length cs) c.deref-curve-items.ensures.value in
    let same = zip_long (λ (v : Vec Rung Global) (k : Curve). IsCurveOf c.args.slots.now v.items k) c.args.ladders.now c.in_ok-curves.curves.items c.in_ok-curves.ensures.each in
    let there : c.loop-zone.zone < length c.in_ok-reaches.reaches.items = omega (arith, long, same, c.loop-zone-test.true, c.requires.long, c.in_ok-reaches.ensures.long) in
    let is : c.index.result.now ≡ reach_at c.in_ok-reaches.reaches.items c.loop-zone.zone = get_or_read c.in_ok-reaches.reaches.items _ _ there c.index.ensures no_reach in
    subst (λ (r : Reach). IsReach 200000000 r) (sym is) (c.in_ok-reaches.ensures.reaches c.loop-zone.zone no_reach there)

pub run_cheapest-requires-clause-ladder : goal.run_cheapest-requires-clause-ladder
run_cheapest-requires-clause-ladder c =
    let long = ap (λ (cs : List Curve). length cs) c.deref-curve-items.ensures.value in
    let same = zip_long (λ (v : Vec Rung Global) (k : Curve). IsCurveOf c.args.slots.now v.items k) c.args.ladders.now c.in_ok-curves.curves.items c.in_ok-curves.ensures.each in
    let there : c.loop-zone.zone < length c.args.ladders.now = omega (arith, long, same, c.loop-zone-test.true) in
    subst (λ (rs : List Rung). IsMeritOrder c.args.slots.now rs) (sym c.deref-in-loop-zone.ensures.value)
    (subst (λ (v : Vec Rung Global). IsMeritOrder c.args.slots.now v.items) (sym c.index-ladders-zone.is) (c.requires.ladders.each c.loop-zone.zone c.index-ladders-zone.result there))

-- what `run_cheapest` takes
low_on : (xs ys : List ℤ) (rs : List Rung) (slots : List Slot) → ys ≡ xs → All (λ (r : Rung). int_at xs r.place ≡ (slot_at slots r.place).low) rs
    → All (λ (r : Rung). int_at ys r.place ≡ (slot_at slots r.place).low) rs
low_on xs ys rs slots e a = subst (λ (zs : List ℤ). All (λ (r : Rung). int_at zs r.place ≡ (slot_at slots r.place).low) rs) (sym e) a

pub run_cheapest-requires-clause-least : goal.run_cheapest-requires-clause-least
run_cheapest-requires-clause-least c =
    let long = ap (λ (cs : List Curve). length cs) c.deref-curve-items.ensures.value in
    let same = zip_long (λ (v : Vec Rung Global) (k : Curve). IsCurveOf c.args.slots.now v.items k) c.args.ladders.now c.in_ok-curves.curves.items c.in_ok-curves.ensures.each in
    let there : c.loop-zone.zone < length c.args.ladders.now = omega (arith, long, same, c.loop-zone-test.true) in
    let ladder : c.deref-in-loop-zone.result.now ≡ (get_or c.args.ladders.now c.loop-zone.zone c.index-ladders-zone.result).items =
    c.deref-in-loop-zone.ensures.value ∙ ap (λ (v : Vec Rung Global). v.items) c.index-ladders-zone.is in
    low_on c.loop-zone.amounts.items c.deref_mut.result.now c.deref-in-loop-zone.result.now c.args.slots.now c.deref_mut.ensures.value
    (subst (λ (rs : List Rung). All (λ (r : Rung). int_at c.loop-zone.amounts.items r.place ≡ (slot_at c.args.slots.now r.place).low) rs) (sym ladder)
    (c.loop-zone.invariant.zones.rest c.loop-zone.zone c.index-ladders-zone.result (omega arith) there))

written : (n : ℕ) (new rest : List ℤ) → n ≡ length new → take n (new ++ rest) ≡ new
written n new rest e = ap (λ (k : ℕ). take k (new ++ rest)) e ∙ take-append_seam new rest

pub loop-zone-preserved : goal.loop-zone-preserved
loop-zone-preserved c =
    let long = ap (λ (cs : List Curve). length cs) c.deref-curve-items.ensures.value in
    let same = zip_long (λ (v : Vec Rung Global) (k : Curve). IsCurveOf c.args.slots.now v.items k) c.args.ladders.now c.in_ok-curves.curves.items c.in_ok-curves.ensures.each in
    let there : c.loop-zone.zone < length c.args.ladders.now = omega (arith, long, same, c.loop-zone-test.true) in
    let inside : c.loop-zone.zone < c.args.market.now.zones = omega (arith, there, c.requires.long) in
    let there_too : c.loop-zone.zone < length c.in_ok-reaches.reaches.items = omega (arith, inside, c.in_ok-reaches.ensures.long) in
    let price_fits : FitsSigned w64 c.balancing_price-price.result = search rules in
    let more_fits : FitsSigned w64 c.more_at-more.result = search rules in
    let ladder : c.deref-in-loop-zone.result.now ≡ (get_or c.args.ladders.now c.loop-zone.zone c.index-ladders-zone.result).items =
    c.deref-in-loop-zone.ensures.value ∙ ap (λ (v : Vec Rung Global). v.items) c.index-ladders-zone.is in
    let whole : take c.loop-zone.amounts.len (c.run_cheapest.new.amounts ++ drop (length c.run_cheapest.new.amounts) c.loop-zone.amounts.items) ≡ c.run_cheapest.new.amounts =
    written c.loop-zone.amounts.len c.run_cheapest.new.amounts _ (omega (arith, c.loop-zone.amounts.ok.0, c.run_cheapest.auto.amounts, ap (λ (xs : List ℤ). length xs) c.deref_mut.ensures.value)) in
    let is : get_or c.in_ok-curves.curves.items c.loop-zone.zone c.curve-item.result ≡ c.curve-item.result =
    sym (c.curve-item.is ∙ ap (λ (cs : List Curve). get_or cs c.loop-zone.zone c.curve-item.result) c.deref-curve-items.ensures.value) in
    let curve : IsCurveOf c.args.slots.now (get_or c.args.ladders.now c.loop-zone.zone c.index-ladders-zone.result).items c.curve-item.result =
    subst (λ (k : Curve). IsCurveOf c.args.slots.now (get_or c.args.ladders.now c.loop-zone.zone c.index-ladders-zone.result).items k) is
    (AllZip-at (λ (v : Vec Rung Global) (k : Curve). IsCurveOf c.args.slots.now v.items k) c.args.ladders.now c.in_ok-curves.curves.items c.loop-zone.zone c.index-ladders-zone.result
    c.curve-item.result there c.in_ok-curves.ensures.each) in
    let read : c.index.result.now ≡ reach_at c.in_ok-reaches.reaches.items c.loop-zone.zone = get_or_read c.in_ok-reaches.reaches.items _ _ there_too c.index.ensures no_reach in
    let reach : IsReachOf c.args.market.now.borders c.loop-zone.zone c.index.result.now =
    subst (λ (r : Reach). IsReachOf c.args.market.now.borders c.loop-zone.zone r) (sym read) (c.in_ok-reaches.ensures.each c.loop-zone.zone inside) in
    let ran : IsByMerit c.args.slots.now (get_or c.args.ladders.now c.loop-zone.zone c.index-ladders-zone.result).items
    (least_of c.args.slots.now (get_or c.args.ladders.now c.loop-zone.zone c.index-ladders-zone.result).items +ℤ c.more_at-more.result) c.run_cheapest.new.amounts =
    subst (λ (rs : List Rung). IsByMerit c.args.slots.now rs (least_of c.args.slots.now rs +ℤ c.more_at-more.result) c.run_cheapest.new.amounts) ladder
    (rw (to_z-of_z more_fits) at c.run_cheapest.ensures.merit) in
    let zones : AreZonesRun c.args.slots.now c.args.ladders.now c.args.market.now.borders (to_z w64 (of_z w64 c.balancing_price-price.result)) (c.loop-zone.zone + 1) c.run_cheapest.new.amounts =
    zone_more c.args.slots.now c.args.ladders.now c.args.market.now.borders
    (to_z w64 (of_z w64 c.balancing_price-price.result)) c.loop-zone.zone c.index-ladders-zone.result c.loop-zone.amounts.items c.run_cheapest.new.amounts c.requires.ladders there
    (merit_of_curve c.args.slots.now (get_or c.args.ladders.now c.loop-zone.zone c.index-ladders-zone.result).items c.curve-item.result c.args.market.now.borders c.loop-zone.zone
    (to_z w64 (of_z w64 c.balancing_price-price.result)) c.more_at-more.result c.run_cheapest.new.amounts
    curve (c.more_at-more.ensures c.args.market.now.borders c.loop-zone.zone reach) ran)
    (λ k other. c.run_cheapest.ensures.others k (subst (λ (rs : List Rung). All (λ (r : Rung). r.place ≢ k) rs) (sym ladder) other) ∙ ap (λ (xs : List ℤ). int_at xs k) c.deref_mut.ensures.value)
    c.loop-zone.invariant.zones in
    record {
      within = subst (λ (xs : List ℤ). AllZip IsWithinSlot c.args.slots.now xs) (sym whole) c.run_cheapest.ensures.within;
      zones = subst
          (λ (xs : List ℤ). AreZonesRun c.args.slots.now c.args.ladders.now c.args.market.now.borders (to_z w64 (of_z w64 c.balancing_price-price.result)) (c.loop-zone.zone + 1) xs) (sym whole) zones;
    }

pub returns-clause-price : goal.returns-clause-price
returns-clause-price c =
    let long = ap (λ (cs : List Curve). length cs) c.deref-curve-items.ensures.value in
    let same = zip_long (λ (v : Vec Rung Global) (k : Curve). IsCurveOf c.args.slots.now v.items k) c.args.ladders.now c.in_ok-curves.curves.items c.in_ok-curves.ensures.each in
    let price_fits : FitsSigned w64 c.balancing_price-price.result = search rules in
    let balancing : IsBalancing (supply_of_all c.args.slots.now) c.balancing_price-price.result =
    balances c.args.slots.now c.args.ladders.now c.in_ok-curves.curves.items c.balancing_price-price.result c.requires.ladders c.in_ok-curves.ensures.each
    (subst (λ (cs : List Curve). IsBalancing (supplied_by_all cs) c.balancing_price-price.result) c.deref.ensures.value c.balancing_price-price.ensures.balancing) in (
      c.balancing_price-price.result,
      all_run c.args.market.now c.args.slots.now c.args.ladders.now c.balancing_price-price.result c.loop-zone.zone c.loop-zone.amounts.items c.requires.ladders c.requires.slots c.requires.long
          (omega (arith, long, same, c.loop-zone-test.false, c.requires.long)) balancing (rw (to_z-of_z price_fits) at c.loop-zone.invariant.zones),
    )
