use Rattle.mari_market.proofs.Sizes.{as_many}
use Rattle.mari_islands.proofs.check.holds_for.Goals as goal

pub welfare-reached-requires-clause-lengths : goal.welfare-reached-requires-clause-lengths
welfare-reached-requires-clause-lengths c = as_many c.args.market.now c.args.activation.now c.requires.feasible
