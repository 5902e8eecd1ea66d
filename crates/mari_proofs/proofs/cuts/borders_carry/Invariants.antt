use Rattle.std.proofs.Common.{◌≡◌, ◌*◌, take, pos, ◌≤ℤ◌}
use Rattle.mari_market.specs.Sums.{int_sum}
use Rattle.mari_proofs.specs.NetInjections.{carried_of}
use Rattle.mari_units.specs.declared.limits.TheConstants.{MOST_FLOW}
use Rattle.mari_proofs.proofs.cuts.borders_carry.Given as goal

abbrev pub invariant-loop-border : goal.invariant-loop-border
invariant-loop-border l = record {
  sum : l.total ≡ int_sum (carried_of l.side l.zones) (take l.border-index l.borders);
  low : pos 0 ≤ℤ l.total;
  high : l.total ≤ℤ pos (MOST_FLOW * l.border-index);
}
