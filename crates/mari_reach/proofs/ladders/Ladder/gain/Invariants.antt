use Rattle.std.proofs.Common.{◌≡◌, ◌*◌, ℕ, pos, neg_ℤ, ◌≤ℤ◌}
use Rattle.mari_market.specs.Price.{price_at}
use Rattle.mari_market.specs.Sums.{int_sum}
use Rattle.mari_market.specs.declared.limits.TheConstants.{MOST_ORDERS, MOST_WORTH}
use Rattle.mari_proofs.specs.Tables.{level_of, sum_below}
use Rattle.mari_reach.specs.Ladders.{gain_at, level_at, rung_of, up_to}
use Rattle.mari_reach.proofs.ladders.Ladder.gain.Given as goal

abbrev pub invariant-loop-zone : goal.invariant-loop-zone
invariant-loop-zone l = record {
  sum : l.total ≡ sum_below (λ (z : ℕ). int_sum (up_to (gain_at (level_of l.side (price_at l.potentials z))) z (rung_of l.side (level_at l.levels l.side z))) l.self.offers.items) l.zone;
  low : neg_ℤ (pos (2 * (MOST_WORTH * MOST_ORDERS) * l.zone)) ≤ℤ l.total;
  high : l.total ≤ℤ pos (2 * (MOST_WORTH * MOST_ORDERS) * l.zone);
}
