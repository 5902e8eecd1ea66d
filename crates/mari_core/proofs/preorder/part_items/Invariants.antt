use Rattle.std.proofs.Common.{◌≡◌, map, take, ℕ}
use Rattle.mari_core.specs.Nodes.{state_at}
use Rattle.mari_core.specs.Preorder.{part_item}
use Rattle.mari_core.proofs.preorder.part_items.Given as goal

abbrev pub invariant-loop-node : goal.invariant-loop-node
invariant-loop-node l = l.items.items ≡ map (λ (x : ℕ). part_item (state_at l.nodes x)) (take l.node-index l.node-items)
