use Rattle.std.proofs.Common.{◌≡◌, ◌<◌, ℕ}
use Rattle.mari_market.specs.Price.{price_at}
use Rattle.mari_market.specs.Sums.{int_at}
use Rattle.mari_reach.specs.Values.{inject_below, withdraw_above}
use Rattle.mari_reach.proofs.levels.Levels.of.Given as goal

abbrev pub invariant-loop-zone : goal.invariant-loop-zone
invariant-loop-zone l = record {
  injects : (z : ℕ) → z < l.zone → int_at l.levels.injects z ≡ inject_below (price_at l.potentials z) (int_at l.state.prices.low z) (int_at l.state.prices.high z);
  withdraws : (z : ℕ) → z < l.zone → int_at l.levels.withdraws z ≡ withdraw_above (price_at l.potentials z) (int_at l.state.prices.low z) (int_at l.state.prices.high z);
}
