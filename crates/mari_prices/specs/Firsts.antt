-- The first zone of each zone's area, and areas numbered by their first zones.
use Rattle.std.specs.Prelude.{◌≡◌, ℕ, ◌<◌, ◌≤◌, ℤ, pos, neg_ℤ, List, Option, Some, None, length, unsigned_abs}
use Rattle.mari_market.specs.Area.{area_at}
use Rattle.mari_prices.specs.declared.spread.SettledZone.{SettledZone}
use Rattle.mari_market.specs.Sums.{int_at}
use Rattle.mari_prices.specs.Spread.{entry_at}

-- each zone's own value is its number, with the sign turned, so that the first zone has the greatest
abbrev pub ArePlaces : List ℤ → Type 0
ArePlaces values = (z : ℕ) → z < length values → int_at values z ≡ neg_ℤ (pos z)

-- the zone whose value this is
abbrev pub first_in : Option SettledZone → ℕ
first_in None = 0
first_in (Some s) = unsigned_abs s.value

-- the first zone of the area of the zone of this number
abbrev pub first_at : List (Option SettledZone) → ℕ → ℕ
first_at xs z = first_in (entry_at xs z)

-- each zone has a first zone, no later than itself, which is its own first zone
pub record AreFirsts (n : ℕ) (f : ℕ → ℕ) : Type 0 where
  pub no_later : (z : ℕ) → z < n → f z ≤ z
  pub own : (z : ℕ) → z < n → f (f z) ≡ f z

-- the first zones so far are numbered from 1 to the count, in order, and each other zone as its first zone
pub record IsNumbering (f a : ℕ → ℕ) (n count : ℕ) : Type 0 where
  pub few : count ≤ n
  pub from_one : (z : ℕ) → z < n → 1 ≤ a z
  pub to_count : (z : ℕ) → z < n → a z ≤ count
  pub as_first : (z : ℕ) → z < n → a z ≡ a (f z)
  pub apart : (y z : ℕ) → y < n → z < n → f y ≡ y → f z ≡ z → a y ≡ a z → y ≡ z
  pub each : (k : ℕ) → 1 ≤ k → k ≤ count → (y : ℕ) × (y < n) × (a y ≡ k)
  pub in_order : (z k : ℕ) → z < n → 1 ≤ k → k ≤ a z → (y : ℕ) × (y ≤ z) × (a y ≡ k)

-- areas are numbered so
pub record AreNumberedByFirsts (xs : List (Option SettledZone)) (areas : List ℕ) : Type 0 where
  pub one_each : length areas ≡ length xs
  pub count : ℕ
  pub numbering : IsNumbering (first_at xs) (area_at areas) (length xs) count
