use Rattle.std.proofs.Common.{◌≡◌, ℕ, take}
use Rattle.std.specs.List.{list_any}
use Rattle.mari_market.specs.declared.market.Order.{Order}
use Rattle.mari_market.specs.Activation.{is_gate}
use Rattle.mari_market.specs.Prefix.{opens_in}
use Rattle.mari_reach.specs.Tables.{lone_in}
use Rattle.mari_reach.specs.Twins.{orders_of, sole}
use Rattle.mari_reach.proofs.ranks.Lone.among.Given as goal

abbrev pub invariant-loop-order : goal.invariant-loop-order
invariant-loop-order l = record {
  orders : (g : ℕ) → lone_in l.lone g ≡ sole (orders_of (take l.order-index l.orders) g);
  seen : (g : ℕ) → opens_in l.seen g ≡ list_any (λ (o : Order). is_gate g o.gate) (take l.order-index l.orders);
}
