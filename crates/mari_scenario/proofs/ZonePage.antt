-- The page of zones is a book.
use Rattle.std.proofs.Common.{◌≡◌, ◌<◌, ◌+◌, ℕ, [], ◌∷◌, codes, length, true, Ok, Some, refl}
use lib.Utf8.{encode}
use Rattle.std.specs.Fmt.{digits}
use Rattle.std.specs.Str.{chars, is_utf8}
use Rattle.csv.specs.Machine.{next_record}
use Rattle.csv.specs.Reading.{records_from, strip_bom}
use Rattle.mari_rows.specs.Books.{book_in}
use Rattle.mari_rows.proofs.PrintedLemmas.{is_plain_field}
use Rattle.mari_zones.specs.Borders.{zone_named}
use Rattle.mari_zones.specs.Zones.{zone_columns, zone_grammar}
use Rattle.mari_zones.specs.declared.zones.ZoneBook.{ZoneBook}
use Rattle.mari_scenario.specs.Draws.{lines}
use Rattle.mari_scenario.specs.Pages.{zone, zones_text}
use Rattle.mari_scenario.proofs.Places.{first-eight}

-- the book of the eight zones, of which each operator has two
unfoldable pub the_zones : ZoneBook
the_zones = record {
  zones = codes "Z1" ∷ codes "Z2" ∷ codes "Z3" ∷ codes "Z4" ∷ codes "Z5" ∷ codes "Z6" ∷ codes "Z7" ∷ codes "Z8" ∷ [];
  operators = codes "T1" ∷ codes "T2" ∷ codes "T3" ∷ codes "T4" ∷ [];
  operator_of = 0 ∷ 1 ∷ 2 ∷ 3 ∷ 0 ∷ 1 ∷ 2 ∷ 3 ∷ [];
}

pub zones-accepted : book_in zone_grammar zones_text ≡ Ok the_zones
unfolding lines next_record records_from strip_bom zone_columns the_zones digits is_utf8 chars encode
zones-accepted = refl

pub count-zones : length the_zones.zones ≡ 8
unfolding the_zones
count-zones = refl

-- each zone's name is known, and stands in a page without quotes
pub zone-known : (k : ℕ) → k < 8 → zone_named the_zones (zone (k + 1)) ≡ Some k
unfolding the_zones digits
zone-known = first-eight (λ k. zone_named the_zones (zone (k + 1)) ≡ Some k) refl refl refl refl refl refl refl refl

pub zone-plain : (k : ℕ) → k < 8 → is_plain_field (zone (k + 1)) ≡ true
unfolding digits
zone-plain = first-eight (λ k. is_plain_field (zone (k + 1)) ≡ true) refl refl refl refl refl refl refl refl

-- the same, where the number is counted on from 1
pub drawn-known : (k : ℕ) → k < 8 → zone_named the_zones (zone (1 + k)) ≡ Some k
unfolding the_zones digits
drawn-known = first-eight (λ k. zone_named the_zones (zone (1 + k)) ≡ Some k) refl refl refl refl refl refl refl refl

pub drawn-plain : (k : ℕ) → k < 8 → is_plain_field (zone (1 + k)) ≡ true
unfolding digits
drawn-plain = first-eight (λ k. is_plain_field (zone (1 + k)) ≡ true) refl refl refl refl refl refl refl refl
