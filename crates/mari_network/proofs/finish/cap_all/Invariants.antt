use Rattle.std.proofs.Common.{◌≡◌, map, take}
use Rattle.mari_network.specs.Orders.{capped_cents}
use Rattle.mari_network.proofs.finish.cap_all.Given as goal

abbrev pub invariant-loop-price : goal.invariant-loop-price
invariant-loop-price l = l.all.items ≡ map capped_cents (take l.price-index l.prices)
