use Rattle.std.proofs.Common.{◌≡◌, map, take}
use Rattle.mari_market.specs.Prefix.{bounds_at}
use Rattle.mari_gates.proofs.bounds.bounds_of.Given as goal

abbrev pub invariant-loop-order : goal.invariant-loop-order
invariant-loop-order l = record {
  least : l.least.items ≡ map (λ o. (bounds_at l.market l.prefix o).lo) (take l.order-index l.orders);
  greatest : l.greatest.items ≡ map (λ o. (bounds_at l.market l.prefix o).hi) (take l.order-index l.orders);
}
