use Rattle.std.proofs.Common.{arith, pos}
use Rattle.mari_network.proofs.Levels.{given_more}
use Rattle.mari_network.proofs.search.level.Goals as goal

pub loop-hop-preserved : goal.loop-hop-preserved
loop-hop-preserved c =
    given_more (pos 0) c.args.hops.now c.args.prices.now c.loop-hop.prices _ c.loop-hop.hop-index (omega (arith, c.requires.zones c.loop-hop.hop-index c.loop-hop-test.true))
    c.loop-hop.invariant
