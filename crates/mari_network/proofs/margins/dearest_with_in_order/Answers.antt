use Rattle.std.proofs.Common.{arith, rules, ◌≤ℤ◌, ◌<ℤ◌}
use Rattle.std.proofs.lemmas.Int.{ints}
use Rattle.mari_market.specs.Sums.{int_at}
use Rattle.mari_network.specs.Slots.{slot_at}
use Rattle.mari_network.proofs.Gathered.{dearest_kept, dearest_taken}
use Rattle.mari_network.proofs.margins.dearest_with_in_order.Goals as goal

pub returns-then-amounts-slot : goal.returns-then-amounts-slot
returns-then-amounts-slot c =
    let below : int_at c.args.amounts.now c.args.slot ≤ℤ (slot_at c.args.slots.now c.args.slot).low = search rules in
    dearest_kept c.args.slots.now c.args.amounts.now c.args.slot c.args.best (λ can. absurd (omega (arith, ints, can.1, below)))

pub returns : goal.returns
returns c =
    let above : (slot_at c.args.slots.now c.args.slot).low <ℤ int_at c.args.amounts.now c.args.slot = search rules in
    dearest_taken c.args.slots.now c.args.amounts.now c.args.slot c.args.best c.dearer_in_order.result
    (c.requires.slot, above) c.dearer_in_order.ensures.one c.dearer_in_order.ensures.above c.dearer_in_order.ensures.keeps
