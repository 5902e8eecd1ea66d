use Rattle.std.proofs.Common.{◌≡◌, ◌*◌, ◌≤◌}
use Rattle.std.specs.Prelude.{unsigned_abs}
use Rattle.std.specs.List.{range_with_len}
use Rattle.mari_market.specs.Sums.{int_sum}
use Rattle.mari_settle.specs.Ledger.{payment_at}
use Rattle.mari_settle.proofs.operators.operator_payment.Given as goal

abbrev pub invariant-loop-zone : goal.invariant-loop-zone
invariant-loop-zone l = record {
  sum : l.total ≡ int_sum (payment_at l.zones l.market l.activation l.prices l.operator) (range_with_len 0 l.zone);
  small : unsigned_abs l.total ≤ 9999900 * 102400000 * l.zone;
}
