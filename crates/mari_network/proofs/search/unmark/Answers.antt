use Rattle.std.proofs.Common.{arith}
use Rattle.mari_network.proofs.Marks.{all_unmarked}
use Rattle.mari_network.proofs.search.unmark.Goals as goal

pub returns : goal.returns
returns c = all_unmarked c.loop-mark.marked (λ k l. c.loop-mark.invariant k (omega (arith, l)))
