use Rattle.std.proofs.Common.{◌≡◌, ◌*◌, take}
use Rattle.std.specs.Prelude.{pos, neg_ℤ, ◌≤ℤ◌}
use Rattle.mari_market.specs.Sums.{sum_along}
use Rattle.mari_network.specs.Slots.{slot_gain}
use Rattle.mari_network.proofs.slots.worth_of.Given as goal

abbrev pub invariant-loop-i : goal.invariant-loop-i
invariant-loop-i l = record {
  sum : l.total ≡ sum_along slot_gain (take l.i l.slots) (take l.i l.amounts);
  least : neg_ℤ (pos (20000000 * 1099511627776 * l.i)) ≤ℤ l.total;
  most : l.total ≤ℤ pos (20000000 * 1099511627776 * l.i);
}
