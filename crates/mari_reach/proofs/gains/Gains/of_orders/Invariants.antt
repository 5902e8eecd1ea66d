use Rattle.std.proofs.Common.{◌≡◌, ◌*◌, take, ℕ, pos, neg_ℤ, ◌≤ℤ◌}
use Rattle.mari_market.specs.Sums.{int_at, int_sum}
use Rattle.mari_market.specs.declared.limits.TheConstants.{MOST_WORTH}
use Rattle.mari_reach.specs.Leaf.{best_of_gate}
use Rattle.mari_reach.specs.Tables.{span_in}
use Rattle.mari_reach.proofs.gains.Gains.of_orders.Given as goal

abbrev pub invariant-loop-order : goal.invariant-loop-order
invariant-loop-order l = record {
  sums : (g : ℕ) → int_at l.gains.by_gate g ≡ int_sum (best_of_gate g (span_in l.state) l.potentials) (take l.order-index l.orders);
  low : (g : ℕ) → neg_ℤ (pos (MOST_WORTH * l.order-index)) ≤ℤ int_at l.gains.by_gate g;
  high : (g : ℕ) → int_at l.gains.by_gate g ≤ℤ pos (MOST_WORTH * l.order-index);
}
