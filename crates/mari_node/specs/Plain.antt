-- The bounds that the orders without a gate set on prices, at an optimum's potentials.
use Rattle.std.specs.Prelude.{◌≡◌, ◌⊎◌, ◌<◌, false, is_some, ℕ, ℤ, neg_ℤ, ◌≤ℤ◌, List, length}
use Rattle.mari_units.specs.declared.numbers.TheConstants.{CAP}
use Rattle.mari_market.specs.declared.market.Market.{Market}
use Rattle.mari_market.specs.Consistent.{IsConsistentTrade, own_standing}
use Rattle.mari_market.specs.Price.{price_at}
use Rattle.mari_market.specs.Sums.{int_at}
use Rattle.mari_network.specs.declared.optimum.Optimum.{Optimum}
use Rattle.mari_paths.specs.Starts.{order_at}
use Rattle.mari_paths.specs.Warm.{IsPlain}
use Rattle.mari_prices.specs.declared.bounds.End.{End}
use Rattle.mari_prices.specs.Tightest.{SetsAt, SetsAtEnd}
use Rattle.mari_node.specs.Running.{quantity_at}

-- the order at this place has no gate and sets its price as a bound at an end
pub record SetsPlainly (end : End) (m : Market) (o : Optimum) (k : ℕ) : Type 0 where
  pub none : is_some (order_at m k).gate ≡ false
  pub sets : SetsAtEnd end (own_standing (order_at m k).gate (quantity_at o k)) (order_at m k).side (order_at m k).greatest (quantity_at o k)

-- the potentials keep the bounds that orders without a gate set
abbrev pub ArePlainKept : Market → Optimum → Type 0
ArePlainKept m o = (k : ℕ) → IsPlain m k
    → IsConsistentTrade (own_standing (order_at m k).gate (quantity_at o k)) (order_at m k).side (order_at m k).price.0 (order_at m k).greatest
    (quantity_at o k) (price_at o.potentials.cents (order_at m k).zone)

-- the order at this place is of zone z and sets the bound c
abbrev pub SetsThere : End → Market → Optimum → ℕ → ℤ → ℕ → Type 0
SetsThere end m o z c k = SetsAt end z c (order_at m k) (quantity_at o k)

-- c is no looser than each bound of zone z that the order at this place sets
abbrev pub IsNoLooser : End → Market → Optimum → ℕ → ℤ → ℕ → Type 0
IsNoLooser end m o z c k = (d : ℤ) → SetsThere end m o z d k → d ≤ℤ c

-- c bounds the price of zone z by the cap or by some order, and is no looser than the cap or than what the orders
-- without a gate set
pub record IsPlainBound (end : End) (m : Market) (o : Optimum) (z : ℕ) (c : ℤ) : Type 0 where
  pub bound : (c ≡ neg_ℤ CAP) ⊎ ((k : ℕ) × (k < length m.orders) × SetsThere end m o z c k)
  pub capped : neg_ℤ CAP ≤ℤ c
  pub plain : (k : ℕ) → IsPlain m k → IsNoLooser end m o z c k

-- such a bound of each zone
pub record ArePlainBounds (end : End) (m : Market) (o : Optimum) (bounds : List ℤ) : Type 0 where
  pub one_each : length bounds ≡ m.zones
  pub each : (z : ℕ) → z < m.zones → IsPlainBound end m o z (int_at bounds z)
