use Rattle.std.proofs.Common.{◌≡◌, ◌*◌, take, pos, neg_ℤ, ◌≤ℤ◌}
use Rattle.mari_market.specs.Dual.{best_flow}
use Rattle.mari_reach.specs.Tables.{flow_in}
use Rattle.mari_market.specs.Sums.{int_sum}
use Rattle.mari_market.specs.declared.limits.TheConstants.{MOST_WORTH}
use Rattle.mari_reach.proofs.dual.borders_value.Given as goal

abbrev pub invariant-loop-border : goal.invariant-loop-border
invariant-loop-border l = record {
  sum : l.total ≡ int_sum (best_flow (flow_in l.state) l.potentials) (take l.border-index l.borders);
  low : neg_ℤ (pos (MOST_WORTH * l.border-index)) ≤ℤ l.total;
  high : l.total ≤ℤ pos (MOST_WORTH * l.border-index);
}
