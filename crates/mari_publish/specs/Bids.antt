-- The lines of bids that stand first in a text, taken in place.
use Rattle.std.specs.Prelude.{◌≡◌, ◌≤◌, ◌<◌, ℕ, List, ◌++◌, map, length}
use Rattle.std.specs.List.{AllByRecursion}
use Rattle.mari_units.specs.declared.limits.TheConstants.{MOST_BIDS}
use Rattle.mari_lines.specs.declared.line.BidLine.{BidLine}
use Rattle.mari_lines.specs.declared.line.Line.TheVariants as line
use Rattle.mari_lines.specs.Ranges.{InRange}
use Rattle.mari_publish.specs.declared.held.Listing.{Listing}
use Rattle.mari_publish.specs.Texts.{text_of_lines}

-- a text begins with the lines of some bids, which were appended to those before; and with these there are not too many
pub record BidsTaken (old new : List BidLine) (text rest : List ℕ) : Type 0 where
  pub bids : List BidLine
  pub in_range : AllByRecursion (λ b. InRange (line.Bid b)) bids
  pub is : text ≡ text_of_lines (map line.Bid bids) ++ rest
  pub appended : new ≡ old ++ bids
  pub few : length old < length new → length new ≤ MOST_BIDS

-- a block with these bids in place of its own
abbrev pub with_bids : Listing → List BidLine → Listing
with_bids b bids = record { heading = b.heading; welfare = b.welfare; zones = b.zones; borders = b.borders; bids = bids; demands = b.demands }
