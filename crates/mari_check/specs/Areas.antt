-- The numbers of areas, held against labels that the zones of one area share.
use Rattle.std.specs.Prelude.{◌≡◌, ◌<◌, ◌↔◌, ℕ, List, length, slice_index}
use Rattle.mari_market.specs.Area.{IsNumbered, area_at}

-- two zones have one number exactly where they have one label
abbrev pub AreAlike : (areas labels : List ℕ) → (zone other : ℕ) → Type 0
AreAlike areas labels zone other = (area_at areas zone ≡ area_at areas other) ↔ (slice_index labels zone ≡ slice_index labels other)

-- a zone has one number with exactly the zones that have its label
abbrev pub AgreeAt : (areas labels : List ℕ) → ℕ → Type 0
AgreeAt areas labels zone = (other : ℕ) → other < length areas → AreAlike areas labels zone other

-- areas are numbered from 1 by their first zone
abbrev pub AreNumbered : List ℕ → Type 0
AreNumbered areas = (zone : ℕ) → zone < length areas → IsNumbered areas zone
