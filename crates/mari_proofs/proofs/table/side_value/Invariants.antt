use Rattle.std.proofs.Common.{◌≡◌, ◌*◌, ℕ, pos, neg_ℤ, ◌≤ℤ◌}
use Rattle.mari_market.specs.Price.{price_at}
use Rattle.mari_market.specs.declared.limits.TheConstants.{MOST_ORDERS, MOST_WORTH}
use Rattle.mari_proofs.specs.Tables.{gain_from, ladder_at, level_of, sum_below}
use Rattle.mari_proofs.proofs.table.side_value.Given as goal

abbrev pub invariant-loop-zone : goal.invariant-loop-zone
invariant-loop-zone l = record {
  sum : l.total ≡ sum_below (λ (z : ℕ). gain_from (level_of l.side (price_at l.potentials z)) (pos 0) (ladder_at l.ladders z)) l.zone;
  low : neg_ℤ (pos (2 * (MOST_WORTH * MOST_ORDERS) * l.zone)) ≤ℤ l.total;
  high : l.total ≤ℤ pos (2 * (MOST_WORTH * MOST_ORDERS) * l.zone);
}
