-- Prices of a joint market: of each zone the one nearest to the reference of its own quarter.
use Rattle.std.specs.Prelude.{ℕ, ◌+◌, ◌/◌, ℤ, List, length}
use Rattle.mari_units.specs.declared.Cents.{Cents}
use Rattle.mari_market.specs.Interval.{IsGreatestPrice, IsLeastPrice, IsNearest}
use Rattle.mari_market.specs.Price.{EachZone}
use Rattle.mari_market.specs.declared.activation.Activation.{Activation}
use Rattle.mari_market.specs.declared.market.Market.{Market}
use Rattle.mari_remain.specs.declared.books.Books.{Books}
use Rattle.mari_blocks.specs.Joint.{reference_of}

-- the quarter of a zone of the joint market
abbrev pub zone_quarter : Books → (first zone : ℕ) → ℕ
zone_quarter books first zone = first + zone / length books.zones.zones

-- the reference price of a zone's own quarter
abbrev pub own_reference : Books → (first zone : ℕ) → ℤ
own_reference books first zone = (reference_of books (zone_quarter books first zone)).0

-- the price of the zone's interval that is nearest to the zone's own reference
pub record IsOwnPrice (m : Market) (a : Activation) (reference : ℕ → ℤ) (z : ℕ) (c : ℤ) : Type 0 where
  pub low : ℤ
  pub high : ℤ
  pub least : IsLeastPrice m a z low
  pub greatest : IsGreatestPrice m a z high
  pub nearest : IsNearest low high (reference z) c

-- each zone's price by its own reference
abbrev pub AreOwnPrices : Market → Activation → (reference : ℕ → ℤ) → List Cents → Type 0
AreOwnPrices m a reference ps = EachZone m ps (IsOwnPrice m a reference)
