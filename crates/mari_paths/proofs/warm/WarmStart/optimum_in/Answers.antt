use Rattle.mari_market.specs.Prefix.{bounds_at}
use Rattle.mari_network.proofs.Readings.{none_says}
use Rattle.mari_paths.proofs.warm.WarmStart.optimum_in.Goals as goal

pub returns-clause-empty : goal.returns-clause-empty
returns-clause-empty c = none_says (bounds_at c.args.market.now c.args.prefix.now) c.args.market.now c.requires.market c.answer_in.result c.answer_in.ensures.found
