use Rattle.std.proofs.Common.{false}
use Rattle.mari_network.proofs.Levels.{AreGiven}
use Rattle.mari_network.proofs.search.unmark_hops.Given as goal

abbrev pub invariant-loop-hop : goal.invariant-loop-hop
invariant-loop-hop l = AreGiven false l.hops l.fn.marked false l.hop-index l.marked
