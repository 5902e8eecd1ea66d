use Rattle.std.proofs.Common.{arith, false}
use Rattle.mari_network.proofs.Levels.{given_more}
use Rattle.mari_network.proofs.search.unmark_hops.Goals as goal

pub loop-hop-preserved : goal.loop-hop-preserved
loop-hop-preserved c =
    given_more false c.args.hops.now c.args.marked.now c.loop-hop.marked false c.loop-hop.hop-index (omega (arith, c.requires.zones c.loop-hop.hop-index c.loop-hop-test.true))
    c.loop-hop.invariant
