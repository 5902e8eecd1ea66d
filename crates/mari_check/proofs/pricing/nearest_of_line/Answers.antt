use Rattle.std.proofs.Common.{arith}
use Rattle.std.proofs.lemmas.Int.{clamps, ints}
use Rattle.mari_market.proofs.Published.{clamped}
use Rattle.mari_check.proofs.pricing.nearest_of_line.Goals as goal

pub returns : goal.returns
returns c = clamped c.args.line.now.least.0 c.args.line.now.greatest.0 c.args.reference.0 _ c.requires (omega (arith, ints, clamps, c.clamp.ensures.value))
