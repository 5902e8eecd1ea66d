use Rattle.std.proofs.Common.{◌≡◌, ◌*◌, ◌≤◌, take}
use Rattle.std.specs.Prelude.{unsigned_abs}
use Rattle.mari_market.specs.Sums.{sum_along}
use Rattle.mari_settle.specs.Ledger.{carried_in}
use Rattle.mari_settle.proofs.operators.net_import.Given as goal

abbrev pub invariant-loop-i : goal.invariant-loop-i
invariant-loop-i l = record {
  sum : l.total ≡ sum_along (carried_in l.zone) (take l.i l.market.borders) (take l.i l.activation.flow);
  small : unsigned_abs l.total ≤ 400000 * l.i;
}
