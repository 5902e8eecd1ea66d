use Rattle.std.proofs.Common.{arith}
use Rattle.std.proofs.lemmas.Int.{ints, clamps}
use Rattle.mari_market.proofs.Published.{clamped}
use Rattle.mari_prices.proofs.published.nearest.Goals as goal

pub returns : goal.returns
returns c = clamped c.args.least.0 c.args.greatest.0 c.args.reference.0 _ c.requires (omega (arith, ints, clamps, c.clamp.ensures.value))
