use Rattle.std.proofs.Common.{◌≡◌, ◌++◌, map, take}
use Rattle.mari_blocks.specs.Joint.{shifted_order}
use Rattle.mari_blocks.proofs.parts.put_orders.Given as goal

-- the orders so far
abbrev pub invariant-loop-order : goal.invariant-loop-order
invariant-loop-order l = l.into.items ≡ l.fn.into.items ++ map (shifted_order l.zones) (take l.order-index l.orders)
