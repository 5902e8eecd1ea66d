use Rattle.mari_market.proofs.Sizes.{as_many}
use Rattle.mari_check.proofs.block.has_welfare.Goals as goal

pub welfare-requires-clause-lengths : goal.welfare-requires-clause-lengths
welfare-requires-clause-lengths c = as_many c.args.market.now c.args.activation.now c.requires.feasible
