use Rattle.std.proofs.Common.{◌≤◌, ◌+◌, length, get_or, arith, refl, rules, sym, inl, inr}
use Rattle.mari_network.specs.Slots.{IsWithinSlot}
use Rattle.mari_network.proofs.Gathered.{margins_of_first, margins_same, margins_with}
use Rattle.mari_network.proofs.Lists.{zip_long}
use Rattle.mari_paths.specs.Warm.{IsPlain}
use Rattle.mari_paths.proofs.Bounded.{IsTaken, all_taken, still_taken, take_one, taken_there}
use Rattle.mari_paths.proofs.margins.complete_margins.Goals as goal

pub loop-place-init : goal.loop-place-init
loop-place-init c =
    let m = c.args.market.now in
    margins_same (IsPlain m) (IsTaken m c.args.gated.now 0) c.args.slots.now c.args.amounts.now m.zones c.args.margins.now (λ k plain. inl plain)
    (λ k h. elim h [
      | inl plain ↦ plain
      | inr j ↦ absurd (omega (arith, j.1))
    ]) c.requires.margins

pub add_to_margin-requires-clause-lengths : goal.add_to_margin-requires-clause-lengths
add_to_margin-requires-clause-lengths c = sym (zip_long IsWithinSlot c.args.slots.now c.args.amounts.now c.requires.filled.within)

pub loop-place-preserved : goal.loop-place-preserved
loop-place-preserved c =
    let m = c.args.market.now in
    let i = c.loop-place.place-index in
    margins_with (IsTaken m c.args.gated.now i) (IsTaken m c.args.gated.now (i + 1)) c.args.slots.now c.args.amounts.now (get_or c.args.gated.now i 0)
    (take_one m c.args.gated.now i) (still_taken m c.args.gated.now i) (inr (i, omega arith, refl)) m.zones c.loop-place.margins c.add_to_margin.new.margins
    c.add_to_margin.auto.margins c.add_to_margin.ensures.here c.add_to_margin.ensures.others c.loop-place.invariant

pub returns : goal.returns
returns c =
    let m = c.args.market.now in
    let i = c.loop-place.place-index in
    let few : i ≤ length c.args.gated.now = search rules in
    margins_of_first (IsTaken m c.args.gated.now i) c.args.slots.now c.args.amounts.now m.zones (length m.orders) c.loop-place.margins
    (λ k l. all_taken m c.args.gated.now i k c.requires.gated c.loop-place-test.false l) (λ k h. taken_there m c.args.gated.now i k c.requires.gated few h) c.loop-place.invariant
