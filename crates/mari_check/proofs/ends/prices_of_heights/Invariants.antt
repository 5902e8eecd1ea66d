use Rattle.std.proofs.Common.{◌≡◌, ℕ, ◌<◌, length, slice_index}
use Rattle.mari_market.specs.Price.{price_at}
use Rattle.mari_check.specs.Ends.{IsHeight}
use Rattle.mari_check.proofs.ends.prices_of_heights.Given as goal

-- the prices of the heights so far
abbrev pub invariant-loop-height : goal.invariant-loop-height
invariant-loop-height l = record {
  long : length l.prices.items ≡ l.height-index;
  each : (z : ℕ) → z < l.height-index → IsHeight l.end (price_at l.prices.items z) (slice_index l.heights z);
}
