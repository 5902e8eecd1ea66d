use Rattle.std.proofs.Common.{◌≡◌, ◌*◌, take, pos, neg_ℤ, ◌≤ℤ◌}
use Rattle.mari_market.specs.Sums.{int_sum}
use Rattle.mari_proofs.specs.NetInjections.{put_of}
use Rattle.mari_reach.specs.Tables.{span_in}
use Rattle.mari_units.specs.declared.limits.TheConstants.{MOST_MW}
use Rattle.mari_reach.proofs.cuts.orders_put.Given as goal

abbrev pub invariant-loop-order : goal.invariant-loop-order
invariant-loop-order l = record {
  sum : l.total ≡ int_sum (put_of l.side (span_in l.state) l.set.zones.now) (take l.order-index l.orders);
  low : neg_ℤ (pos (MOST_MW * l.order-index)) ≤ℤ l.total;
  high : l.total ≤ℤ pos (MOST_MW * l.order-index);
}
