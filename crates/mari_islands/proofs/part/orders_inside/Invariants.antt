use Rattle.std.proofs.Common.{◌≡◌, ◌++◌, drop, filter}
use Rattle.mari_islands.specs.Islands.{has_first}
use Rattle.mari_islands.specs.Part.{is_order_in}
use Rattle.mari_islands.proofs.part.orders_inside.Given as goal

-- with those still to come it is the whole
abbrev pub invariant-loop-order : goal.invariant-loop-order
invariant-loop-order l = l.own.items ++ filter (is_order_in (has_first l.firsts l.first)) (drop l.order-index l.orders) ≡ filter (is_order_in (has_first l.firsts l.first)) l.orders
