use Rattle.std.proofs.Common.{◌≡◌, ◌∙◌}
use Rattle.mari_market.specs.Prefix.{bounds_at}
use Rattle.mari_network.specs.Orders.{slots_of}
use Rattle.mari_network.specs.Solving.{IsFoundOptimum}
use Rattle.mari_network.proofs.Readings.{none_says}
use Rattle.mari_flow.proofs.optimum.optimum_at.Goals as goal

pub returns : goal.returns
returns c =
    let made : c.deref.result.now ≡ slots_of (bounds_at c.args.market.now c.args.prefix.now) c.args.market.now.orders = c.deref.ensures.value ∙ c.in_ok-reals.ensures.slots in
    let found : IsFoundOptimum (bounds_at c.args.market.now c.args.prefix.now) c.args.market.now c.solve_slots.result = c.solve_slots.ensures (bounds_at c.args.market.now c.args.prefix.now) made in
    record { found = found; empty = none_says (bounds_at c.args.market.now c.args.prefix.now) c.args.market.now c.requires.market c.solve_slots.result found }
