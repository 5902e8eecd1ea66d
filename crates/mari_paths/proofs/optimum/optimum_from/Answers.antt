use Rattle.mari_market.specs.Prefix.{bounds_at}
use Rattle.mari_network.specs.Solving.{IsFoundOptimum}
use Rattle.mari_network.proofs.Readings.{none_says}
use Rattle.mari_paths.proofs.optimum.optimum_from.Goals as goal

pub returns : goal.returns
returns c =
    let m = c.args.market.now in
    let spans = bounds_at c.args.market.now c.args.prefix.now in
    let found : IsFoundOptimum (bounds_at c.args.market.now c.args.prefix.now) c.args.market.now c.solve_reals.result =
    c.solve_reals.ensures (bounds_at c.args.market.now c.args.prefix.now) c.in_ok-reals.ensures.slots in
    record { found = found; empty = none_says spans m c.requires.market c.solve_reals.result found }
