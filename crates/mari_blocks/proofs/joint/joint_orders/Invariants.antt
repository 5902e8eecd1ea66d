use Rattle.std.proofs.Common.{◌≡◌, map, take}
use Rattle.mari_blocks.specs.Joint.{joint_order}
use Rattle.mari_blocks.proofs.joint.joint_orders.Given as goal

-- the orders of the bids so far
abbrev pub invariant-loop-number : goal.invariant-loop-number
invariant-loop-number l = l.orders.items ≡ map (joint_order l.books l.blocks l.first l.gates) (take l.number-index l.numbers)
