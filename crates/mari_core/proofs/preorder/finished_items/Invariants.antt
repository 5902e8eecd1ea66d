use Rattle.std.proofs.Common.{take}
use Rattle.mari_core.proofs.Finishing.{Visited}
use Rattle.mari_core.proofs.preorder.finished_items.Given as goal

abbrev pub invariant-loop-node : goal.invariant-loop-node
invariant-loop-node l = Visited l.nodes l.items.items (take l.node-index l.node-items)
