use Rattle.std.proofs.Common.{pos}
use Rattle.mari_network.proofs.Levels.{AreGiven}
use Rattle.mari_network.proofs.search.level.Given as goal

abbrev pub invariant-loop-hop : goal.invariant-loop-hop
invariant-loop-hop l = AreGiven (pos 0) l.hops l.fn.prices l.price l.hop-index l.prices
