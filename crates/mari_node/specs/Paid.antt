-- Whether orders lose at prices.
use Rattle.std.specs.Prelude.{ℕ, ℤ, pos, ◌≤ℤ◌, ◌<ℤ◌}
use Rattle.mari_market.specs.declared.market.Market.{Market}
use Rattle.mari_market.specs.Price.{price_at}
use Rattle.mari_market.specs.Sums.{int_at}
use Rattle.mari_network.specs.declared.optimum.Optimum.{Optimum}
use Rattle.mari_paths.specs.Starts.{order_at}

-- at price c an amount x that is put in doesn't lose where the zone's price is p
pub record IsPaid (c p x : ℤ) : Type 0 where
  pub gives : pos 0 <ℤ x → c ≤ℤ p
  pub takes : x <ℤ pos 0 → p ≤ℤ c

-- the order at this place doesn't lose at the optimum's potentials
abbrev pub IsPaidAt : Market → Optimum → ℕ → Type 0
IsPaidAt m o k = IsPaid (order_at m k).price.0 (price_at o.potentials.cents (order_at m k).zone) (int_at o.amounts.items k)
