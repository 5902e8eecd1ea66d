-- The ends of all zones' intervals of consistent prices, counted by their heights.
use Rattle.std.specs.Prelude.{◌≡◌, ◌⊎◌, ◌<◌, ◌≤◌, ℕ, ℤ, pos, ◌+ℤ◌, ◌-ℤ◌, ◌≤ℤ◌, List, length, slice_index}
use Rattle.mari_units.specs.declared.numbers.Cents.{Cents}
use Rattle.mari_market.specs.declared.activation.Activation.{Activation}
use Rattle.mari_market.specs.declared.market.Market.{Market}
use Rattle.mari_market.specs.declared.market.Order.{Order}
use Rattle.mari_market.specs.declared.market.Side.{Side}
use Rattle.mari_market.specs.declared.price_rules.Standing.{Standing}
use Rattle.mari_market.specs.Consistent.{SetsLower, SetsUpper, own_standing}
use Rattle.mari_market.specs.Interval.{AreGreatestPrices, AreLeastPrices}
use Rattle.mari_units.specs.declared.numbers.TheConstants.{CAP}
use Rattle.mari_market.specs.Price.{price_at}
use Rattle.mari_market.specs.Sums.{AnyZip}
use Rattle.mari_check.specs.declared.ends.End.{End}
use Rattle.mari_check.specs.declared.ends.Heights.{Heights}
use Rattle.mari_check.specs.declared.ends.End.TheVariants.{Greatest, Least}
use Rattle.mari_market.specs.declared.along.Along.{Along}
use Rattle.mari_market.specs.declared.along.Along.TheVariants.{Falling, Rising}

-- how far a price lies above the least price that there may be, or at the greatest end below the greatest
abbrev pub IsHeight : End → ℤ → ℕ → Type 0
IsHeight Least c n = pos n ≡ c +ℤ CAP
IsHeight Greatest c n = pos n ≡ CAP -ℤ c

-- how bounds spread
abbrev pub along_of : End → Along
along_of Least = Rising
along_of Greatest = Falling

-- the order sets a bound at this end: a lower one at the least end, an upper one at the greatest
abbrev pub SetsAtEnd : End → Standing → Side → (greatest q : ℕ) → Type 0
SetsAtEnd Least s side greatest q = SetsLower s side greatest q
SetsAtEnd Greatest s side greatest q = SetsUpper s side greatest q

-- the order is of zone z and sets a bound of this height
pub record SetsAt (end : End) (z n : ℕ) (o : Order) (q : ℕ) : Type 0 where
  pub zone : o.zone ≡ z
  pub height : IsHeight end o.price.0 n
  pub sets : SetsAtEnd end (own_standing o.gate q) o.side o.greatest q

-- a bound of the zone's price has this height: the cap's, or that of an order's
abbrev pub IsBoundBy : End → List Order → List ℕ → (z n : ℕ) → Type 0
IsBoundBy end os qs z n = (n ≡ 0) ⊎ AnyZip (SetsAt end z n) os qs

-- the zone's bound in the list has such a height, and no other bound is tighter
pub record IsTightestOf (end : End) (os : List Order) (qs : List ℕ) (z n : ℕ) : Type 0 where
  pub bound : IsBoundBy end os qs z n
  pub tightest : (k : ℕ) → IsBoundBy end os qs z k → k ≤ n

-- the zone's entry in a list of bounds is the tightest
abbrev pub IsTightest : End → List Order → List ℕ → (z : ℕ) → List ℕ → Type 0
IsTightest end os qs z bounds = IsTightestOf end os qs z (slice_index bounds z)

-- each zone's entry is the tightest
pub record AreTightest (end : End) (os : List Order) (qs : List ℕ) (zones : ℕ) (bounds : List ℕ) : Type 0 where
  pub one_each : length bounds ≡ zones
  pub each : (z : ℕ) → z < zones → IsTightest end os qs z bounds

-- each zone's bounds by the orders of a market are the tightest, at both ends
pub record AreHeights (m : Market) (a : Activation) (h : Heights) : Type 0 where
  pub least : AreTightest Least m.orders a.mw m.zones h.least.items
  pub greatest : AreTightest Greatest m.orders a.mw m.zones h.greatest.items

-- a price is no lower than the bound of a height, at the greatest end no higher
abbrev pub IsKept : End → Cents → ℕ → Type 0
IsKept Least c n = pos n ≤ℤ (c.0 +ℤ CAP)
IsKept Greatest c n = pos n ≤ℤ (CAP -ℤ c.0)

-- a zone's bound before and after one order
pub record IsRaised (end : End) (o : Order) (q z old new : ℕ) : Type 0 where
  pub kept : old ≤ new
  pub met : (n : ℕ) → SetsAt end z n o q → n ≤ new
  pub from : (new ≡ old) ⊎ SetsAt end z new o q

-- the bounds of all zones before and after one order, at both ends
pub record AreRaised (o : Order) (q : ℕ) (old new : Heights) : Type 0 where
  pub lows : length new.least.items ≡ length old.least.items
  pub highs : length new.greatest.items ≡ length old.greatest.items
  pub least : (z : ℕ) → IsRaised Least o q z (slice_index old.least.items z) (slice_index new.least.items z)
  pub greatest : (z : ℕ) → IsRaised Greatest o q z (slice_index old.greatest.items z) (slice_index new.greatest.items z)

-- each price has its height
pub record ArePricesOf (end : End) (heights : List ℕ) (ps : List Cents) : Type 0 where
  pub one_each : length ps ≡ length heights
  pub each : (z : ℕ) → z < length heights → IsHeight end (price_at ps z) (slice_index heights z)

-- the least, or the greatest, of the consistent prices of each zone
abbrev pub AreEndPrices : End → Market → Activation → List Cents → Type 0
AreEndPrices Least m a ps = AreLeastPrices m a ps
AreEndPrices Greatest m a ps = AreGreatestPrices m a ps
