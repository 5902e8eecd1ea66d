use Rattle.mari_market.specs.Prefix.{bounds_at}
use Rattle.mari_network.specs.Solving.{IsSolution}
use Rattle.mari_network.proofs.Readings.{solved_says}
use Rattle.mari_flow.proofs.optimum.solve.Goals as goal

pub returns-clause-tight : goal.returns-clause-tight
returns-clause-tight c =
    let s = c.in_ok-solved.ensures in
    let solution : IsSolution (bounds_at c.args.market.now c.args.prefix.now) c.args.market.now c.in_ok-solved.field-0 =
    solved_says (bounds_at c.args.market.now c.args.prefix.now) c.args.market.now c.in_ok-optimum.optimum c.in_ok-solved.field-0 c.in_ok-optimum.ensures.found s.activation s.potentials s.welfare in
    solution.tight
