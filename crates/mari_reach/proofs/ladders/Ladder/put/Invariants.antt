use Rattle.std.proofs.Common.{◌≡◌, ◌*◌, ℕ, pos, ◌≤ℤ◌}
use Rattle.mari_units.specs.declared.limits.TheConstants.{MOST_MW}
use Rattle.mari_market.specs.Sums.{int_at, int_sum}
use Rattle.mari_market.specs.declared.limits.TheConstants.{MOST_ORDERS}
use Rattle.mari_proofs.specs.Tables.{sum_below}
use Rattle.mari_reach.specs.Ladders.{mw_in, rung_of, up_to}
use Rattle.mari_reach.specs.Values.{cut_level}
use Rattle.mari_reach.proofs.ladders.Ladder.put.Given as goal

abbrev pub invariant-loop-zone : goal.invariant-loop-zone
invariant-loop-zone l = record {
  sum : l.total ≡ sum_below (λ (z : ℕ). int_sum (up_to (mw_in l.set.zones.now z) z (rung_of l.side (cut_level l.cut l.side (int_at l.prices.low z) (int_at l.prices.high z)))) l.self.offers.items) l.zone;
  least : pos 0 ≤ℤ l.total;
  most : l.total ≤ℤ pos (MOST_MW * MOST_ORDERS * l.zone);
}
