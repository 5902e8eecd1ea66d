-- The ends of all zones' intervals of prices, and where they contradict each other.
use Rattle.std.specs.Prelude.{◌≡◌, ◌+◌, ℕ, ◌<◌, ◌≤◌, ℤ, neg_ℤ, ◌≤ℤ◌, ◌<ℤ◌, List, [], ◌∷◌, Option, Some, None, length, ⊤}
use Rattle.mari_units.specs.declared.Cents.{Cents}
use Rattle.mari_market.specs.declared.market.Market.{Market}
use Rattle.mari_market.specs.declared.activation.Activation.{Activation}
use Rattle.mari_market.specs.Conflict.{last_of}
use Rattle.mari_market.specs.Optimal.{IsFeasible}
use Rattle.mari_market.specs.Price.{IsPrice, price_at}
use Rattle.mari_market.specs.declared.along.Along.{Along}
use Rattle.mari_market.specs.declared.along.Along.TheVariants.{Rising, Falling}
use Rattle.mari_prices.specs.declared.bounds.PriceBounds.{PriceBounds}
use Rattle.mari_prices.specs.declared.bounds.End.{End}
use Rattle.mari_prices.specs.declared.bounds.End.TheVariants.{Least, Greatest}
use Rattle.mari_prices.specs.declared.spread.SettledZone.{SettledZone}
use Rattle.mari_market.specs.Sums.{int_at}
use Rattle.mari_prices.specs.Spread.{entry_at, AllSettled, SpreadsAlong}
use Rattle.mari_prices.specs.Tightest.{AreTightest, signed}

-- how an end's bounds spread
abbrev pub along_of : End → Along
along_of Least = Rising
along_of Greatest = Falling

-- the tightest bounds at an end, and what they become as they spread
pub record IsEnd (end : End) (m : Market) (a : Activation) (bounds : List ℤ) (xs : List (Option SettledZone)) : Type 0 where
  pub own : AreTightest end m.orders a.mw m.zones bounds
  pub one_each : length xs ≡ m.zones
  pub spread : SpreadsAlong (along_of end) m.borders a.flow bounds xs

-- a feasible activation of these flows, whose tightest bounds at an end are these
pub record IsBoundedAt (end : End) (m : Market) (flow bounds : List ℤ) (a : Activation) : Type 0 where
  pub feasible : IsFeasible m a
  pub flows : a.flow ≡ flow
  pub own : AreTightest end m.orders a.mw m.zones bounds

-- the same at both ends
pub record IsBoundedBy (m : Market) (flow : List ℤ) (b : PriceBounds) (a : Activation) : Type 0 where
  pub feasible : IsFeasible m a
  pub flows : a.flow ≡ flow
  pub least : AreTightest Least m.orders a.mw m.zones b.least.items
  pub greatest : AreTightest Greatest m.orders a.mw m.zones b.greatest.items

-- a feasible activation's tightest bounds at both ends, and what those at the least end become
pub record AreEnds (m : Market) (a : Activation) (b : PriceBounds) (xs : List (Option SettledZone)) : Type 0 where
  pub feasible : IsFeasible m a
  pub least : IsEnd Least m a b.least.items xs
  pub greatest : AreTightest Greatest m.orders a.mw m.zones b.greatest.items

-- every zone is settled, with a price or one with its sign turned
pub record ArePriced (xs : List (Option SettledZone)) : Type 0 where
  pub settled : AllSettled xs
  pub priced : (z : ℕ) (s : SettledZone) → entry_at xs z ≡ Some s → IsPrice s.value

-- each zone's price is its value
pub record ArePricesOf (end : End) (xs : List (Option SettledZone)) (ps : List Cents) : Type 0 where
  pub one_each : length ps ≡ length xs
  pub each : (z : ℕ) (s : SettledZone) → entry_at xs z ≡ Some s → price_at ps z ≡ signed end s.value

-- a zone whose least price is above its upper bound, which stands with its sign turned
pub record IsContradicted (xs : List (Option SettledZone)) (uppers : List ℤ) (z : ℕ) : Type 0 where
  pub entry : SettledZone
  pub settled : entry_at xs z ≡ Some entry
  pub above : neg_ℤ (int_at uppers z) <ℤ entry.value

-- no zone is
abbrev pub AreUncontradicted : ℕ → List (Option SettledZone) → List ℤ → Type 0
AreUncontradicted n xs uppers = (z : ℕ) (s : SettledZone) → z < n → entry_at xs z ≡ Some s → s.value ≤ℤ neg_ℤ (int_at uppers z)

-- the second zone was settled by the first
pub record IsBefore (xs : List (Option SettledZone)) (z y : ℕ) : Type 0 where
  pub entry : SettledZone
  pub settled : entry_at xs y ≡ Some entry
  pub previous : entry.previous ≡ Some z

-- each zone was settled by the one before it
abbrev pub Follows : List (Option SettledZone) → ℕ → List ℕ → Type 0
Follows xs z [] = ⊤
Follows xs z (y ∷ ys) = IsBefore xs z y × Follows xs y ys

-- a chain of zones from the first to the last, each settled by the one before it
pub record IsTrail (xs : List (Option SettledZone)) (last first : ℕ) (chain : List ℕ) : Type 0 where
  pub rest : List ℕ
  pub items : chain ≡ first ∷ rest
  pub follows : Follows xs first rest
  pub ends : last_of first rest ≡ last

-- the first of them by its own value
pub record IsTrailTo (xs : List (Option SettledZone)) (last : ℕ) (chain : List ℕ) : Type 0 where
  pub first : ℕ
  pub trail : IsTrail xs last first chain
  pub entry : SettledZone
  pub settled : entry_at xs first ≡ Some entry
  pub start : entry.previous ≡ None
  pub short : length chain ≤ length xs

-- how many zones the chain to a zone has
abbrev pub depth_of : Option SettledZone → ℕ
depth_of None = 0
depth_of (Some s) = s.depth

-- the chain to each zone is one longer than that to the zone before
pub record AreTrails (xs : List (Option SettledZone)) : Type 0 where
  pub settled : AllSettled xs
  pub before : (z y : ℕ) (s : SettledZone) → entry_at xs z ≡ Some s → s.previous ≡ Some y
      → (t : SettledZone) × (entry_at xs y ≡ Some t) × (s.depth ≡ t.depth + 1)
  pub some : (z : ℕ) (s : SettledZone) → entry_at xs z ≡ Some s → 1 ≤ s.depth
  pub short : (z : ℕ) (s : SettledZone) → entry_at xs z ≡ Some s → s.depth ≤ length xs
