use Rattle.std.proofs.Common.{◌≡◌, ◌<◌, ℕ, length}
use Rattle.mari_market.specs.Interval.{IsNearest}
use Rattle.mari_market.specs.Price.{price_at}
use Rattle.mari_blocks.specs.Prices.{own_reference}
use Rattle.mari_blocks.proofs.prices.own_prices.Given as goal

-- the prices of the zones before this one are the nearest
abbrev pub invariant-loop-zone : goal.invariant-loop-zone
invariant-loop-zone l = record {
  one_each : length l.prices.items ≡ l.zone;
  nearest : (z : ℕ) → z < l.zone → IsNearest (price_at l.least z) (price_at l.greatest z) (own_reference l.books l.first z) (price_at l.prices.items z);
}
