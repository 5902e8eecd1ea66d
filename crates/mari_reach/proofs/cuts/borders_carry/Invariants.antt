use Rattle.std.proofs.Common.{◌≡◌, ◌*◌, take, pos, neg_ℤ, ◌≤ℤ◌}
use Rattle.mari_market.specs.Sums.{int_sum}
use Rattle.mari_reach.specs.Tables.{flow_in}
use Rattle.mari_reach.specs.Values.{carried_by}
use Rattle.mari_units.specs.declared.limits.TheConstants.{MOST_FLOW}
use Rattle.mari_reach.proofs.cuts.borders_carry.Given as goal

abbrev pub invariant-loop-border : goal.invariant-loop-border
invariant-loop-border l = record {
  sum : l.total ≡ int_sum (carried_by l.side (flow_in l.state) l.set.zones.now) (take l.border-index l.borders);
  low : neg_ℤ (pos (MOST_FLOW * l.border-index)) ≤ℤ l.total;
  high : l.total ≤ℤ pos (MOST_FLOW * l.border-index);
}
