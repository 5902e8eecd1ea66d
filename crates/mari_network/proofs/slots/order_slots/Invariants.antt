use Rattle.std.proofs.Common.{◌≡◌, take}
use Rattle.mari_market.specs.Prefix.{bounds_at}
use Rattle.mari_network.specs.Orders.{slots_of}
use Rattle.mari_network.proofs.slots.order_slots.Given as goal

abbrev pub invariant-loop-order : goal.invariant-loop-order
invariant-loop-order l = l.slots.items ≡ slots_of (bounds_at l.market l.prefix) (take l.order-index l.orders)
