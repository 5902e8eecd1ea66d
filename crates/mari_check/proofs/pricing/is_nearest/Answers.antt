use Rattle.mari_check.proofs.Intervals.{nearest-by}
use Rattle.mari_check.proofs.pricing.is_nearest.Goals as goal

pub returns : goal.returns
returns c = nearest-by c.args.line.now.least.0 c.args.line.now.greatest.0 c.args.reference.0 c.args.line.now.price c.nearest_of_line.result c.is_same.result c.nearest_of_line.ensures c.is_same.ensures
