use Rattle.std.proofs.Common.{◌≡◌, ◌≤◌, ℤ, length, take}
use Rattle.std.specs.List.{All}
use Rattle.mari_market.specs.declared.market.Order.{Order}
use Rattle.mari_market.specs.Market.{IsValidOrder}
use Rattle.mari_market.specs.Sums.{int_sum}
use Rattle.mari_proofs.specs.Tables.{of_gated}
use Rattle.mari_proofs.proofs.table.gated_orders.Given as goal

abbrev pub invariant-loop-order : goal.invariant-loop-order
invariant-loop-order l = record {
  few : length l.gated.items ≤ l.order-index;
  orders : All (IsValidOrder l.market.zones (length l.market.gates)) l.gated.items;
  once : (f : Order → ℤ) → int_sum f l.gated.items ≡ int_sum (λ (o : Order). of_gated f o.gate o) (take l.order-index l.market.orders);
}
