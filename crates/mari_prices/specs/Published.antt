-- Price intervals, one for each zone.
use Rattle.std.specs.Prelude.{◌≡◌, ℕ, ◌<◌, ◌≤ℤ◌, List, length}
use Rattle.mari_units.specs.declared.Cents.{Cents}
use Rattle.mari_market.specs.Price.{price_at}

-- two prices for each zone, the first at most the second
pub record AreInOrder (least greatest : List Cents) : Type 0 where
  pub one_each : length greatest ≡ length least
  pub in_order : (z : ℕ) → z < length least → price_at least z ≤ℤ price_at greatest z
