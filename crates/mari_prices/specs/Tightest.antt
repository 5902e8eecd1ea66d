-- The tightest bound of each zone's price, at the lower end of its interval or, with signs turned, at the upper end.
use Rattle.std.specs.Prelude.{◌≡◌, ◌⊎◌, ℕ, ◌<◌, ℤ, neg_ℤ, ◌≤ℤ◌, List, length}
use Rattle.mari_market.specs.declared.market.Side.{Side}
use Rattle.mari_market.specs.declared.market.Order.{Order}
use Rattle.mari_market.specs.declared.price_rules.Standing.{Standing}
use Rattle.mari_market.specs.Consistent.{SetsLower, SetsUpper, own_standing}
use Rattle.mari_units.specs.declared.numbers.TheConstants.{CAP}
use Rattle.mari_market.specs.Sums.{AnyZip, int_at}
use Rattle.mari_prices.specs.declared.bounds.End.{End}
use Rattle.mari_prices.specs.declared.bounds.End.TheVariants.{Least, Greatest}

-- upper bounds of prices are lower bounds of the prices with their signs turned
abbrev pub signed : End → ℤ → ℤ
signed Least c = c
signed Greatest c = neg_ℤ c

abbrev pub SetsAtEnd : End → Standing → Side → ℕ → ℕ → Type 0
SetsAtEnd Least s side greatest q = SetsLower s side greatest q
SetsAtEnd Greatest s side greatest q = SetsUpper s side greatest q

-- the order is of zone z and sets the bound c
pub record SetsAt (end : End) (z : ℕ) (c : ℤ) (o : Order) (q : ℕ) : Type 0 where
  pub zone : o.zone ≡ z
  pub price : signed end o.price.0 ≡ c
  pub sets : SetsAtEnd end (own_standing o.gate q) o.side o.greatest q

-- c bounds the zone's price: by the cap, or by an order
abbrev pub IsBoundBy : End → List Order → List ℕ → ℕ → ℤ → Type 0
IsBoundBy end os qs z c = (c ≡ neg_ℤ CAP) ⊎ AnyZip (SetsAt end z c) os qs

-- and no other bound is tighter
pub record IsTightest (end : End) (os : List Order) (qs : List ℕ) (z : ℕ) (c : ℤ) : Type 0 where
  pub bound : IsBoundBy end os qs z c
  pub tightest : (d : ℤ) → IsBoundBy end os qs z d → d ≤ℤ c

-- each zone's tightest bound at an end
pub record AreTightest (end : End) (os : List Order) (qs : List ℕ) (zones : ℕ) (bounds : List ℤ) : Type 0 where
  pub one_each : length bounds ≡ zones
  pub tightest : (z : ℕ) → z < zones → IsTightest end os qs z (int_at bounds z)

-- the zone's bound before and after one order
pub record IsRaised (end : End) (o : Order) (q z : ℕ) (old new : ℤ) : Type 0 where
  pub kept : old ≤ℤ new
  pub met : (c : ℤ) → SetsAt end z c o q → c ≤ℤ new
  pub from : (new ≡ old) ⊎ SetsAt end z new o q
