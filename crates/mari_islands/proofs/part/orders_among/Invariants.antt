use Rattle.std.proofs.Common.{◌≡◌, ◌++◌, drop, map}
use Rattle.mari_islands.specs.Part.{order_among}
use Rattle.mari_islands.proofs.part.orders_among.Given as goal

-- with those still to come it is the whole
abbrev pub invariant-loop-order : goal.invariant-loop-order
invariant-loop-order l = l.own.items ++ map (order_among l.zones l.gates) (drop l.order-index l.orders) ≡ map (order_among l.zones l.gates) l.orders
