use Rattle.std.proofs.Common.{arith, rules, ◌≤ℤ◌, ◌<ℤ◌}
use Rattle.std.proofs.lemmas.Int.{ints}
use Rattle.mari_market.specs.Sums.{int_at}
use Rattle.mari_network.specs.Slots.{slot_at}
use Rattle.mari_network.proofs.Gathered.{cheapest_kept, cheapest_taken}
use Rattle.mari_network.proofs.margins.cheapest_with_in_order.Goals as goal

pub returns-then-amounts-slot : goal.returns-then-amounts-slot
returns-then-amounts-slot c =
    let below : (slot_at c.args.slots.now c.args.slot).high ≤ℤ int_at c.args.amounts.now c.args.slot = search rules in
    cheapest_kept c.args.slots.now c.args.amounts.now c.args.slot c.args.best (λ can. absurd (omega (arith, ints, can.1, below)))

pub returns : goal.returns
returns c =
    let above : int_at c.args.amounts.now c.args.slot <ℤ (slot_at c.args.slots.now c.args.slot).high = search rules in
    cheapest_taken c.args.slots.now c.args.amounts.now c.args.slot c.args.best c.cheaper_in_order.result
    (c.requires.slot, above) c.cheaper_in_order.ensures.one c.cheaper_in_order.ensures.below c.cheaper_in_order.ensures.keeps
