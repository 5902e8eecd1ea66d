use Rattle.std.proofs.Common.{◌≡◌, ◌*◌, ◌^◌, ◌≤◌, take}
use Rattle.std.specs.Prelude.{unsigned_abs}
use Rattle.mari_market.specs.Activation.{order_gain}
use Rattle.mari_market.specs.Sums.{sum_along}
use Rattle.mari_market.proofs.money.total_gain.Given as goal

abbrev pub invariant-loop-i : goal.invariant-loop-i
invariant-loop-i l = record {
  sum : l.total ≡ sum_along order_gain (take l.i l.orders) (take l.i l.mw);
  small : unsigned_abs l.total ≤ 2 ^ 95 * l.i;
}
