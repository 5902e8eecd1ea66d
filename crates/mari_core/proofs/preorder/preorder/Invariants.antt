use Rattle.std.proofs.Common.{◌-◌, length}
use Rattle.mari_core.proofs.Walks.{AtWalk}
use Rattle.mari_core.proofs.preorder.preorder.Given as goal

abbrev pub invariant-loop-node : goal.invariant-loop-node
invariant-loop-node l = AtWalk l.nodes l.waiting.items l.order.items

abbrev pub decreases-loop-node : goal.decreases-loop-node
decreases-loop-node l = length l.nodes - length l.order.items
