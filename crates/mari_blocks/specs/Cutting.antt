-- What stands in memory of a clearing's quarters, while they are cut out of the joint market's lists.
use Rattle.std.specs.Prelude.{◌≡◌, ◌+◌, ◌-◌, ◌*◌, ◌≤◌, ℕ, List, length, map, take, drop}
use Rattle.std.specs.List.{All, flat_map, range_with_len}
use Rattle.mari_rows.specs.Names.{name_at}
use Rattle.mari_market.specs.declared.activation.Activation.{Activation}
use Rattle.mari_lines.specs.declared.line.BidLine.{BidLine}
use Rattle.mari_lines.specs.declared.line.BorderLine.{BorderLine}
use Rattle.mari_lines.specs.declared.line.ZoneLine.{ZoneLine}
use Rattle.mari_remain.specs.declared.books.Books.{Books}
use Rattle.mari_settle.specs.Conditions.{IsSmall}
use Rattle.mari_settle.specs.Ledger.{rents_of}
use Rattle.mari_progress.specs.Reported.{NameLines}
use Rattle.mari_blocks.specs.Joint.{demands_brought, quarters_of}
use Rattle.mari_blocks.specs.Printed.{AreJointPrices, IsQuarterBlock, activation_printed, areas_printed, bids_of, bids_printed, borders_printed, demand_count, demands_printed, greatest_printed, least_printed, prices_printed, rents_printed}
use Rattle.mari_blocks.specs.Text.{QuarterFits}
use Rattle.mari_blocks.specs.declared.joint.Joint.{Joint}
use Rattle.mari_blocks.specs.declared.printing.Place.{Place}
use Rattle.mari_blocks.specs.declared.printing.Priced.{Priced}
use Rattle.mari_blocks.specs.declared.text.QuarterBlock.{QuarterBlock}

-- `count` items of a list, from the place `from` on
abbrev pub piece : {X : Type 0} → (from count : ℕ) → List X → List X
piece from count xs = take count (drop from xs)

-- the prices, areas and rents of an activation of the joint market
pub record IsPriced (books : Books) (first : ℕ) (joint : Joint) (a : Activation) (priced : Priced) : Type 0 where
  pub prices : AreJointPrices books first joint.market a priced.pricing.published.cents priced.pricing.least.cents priced.pricing.greatest.cents
      priced.areas.items
  pub rents : priced.rents ≡ rents_of joint.market a priced.pricing.published.cents
  pub small : All IsSmall priced.rents

-- three prices and an area for each zone of `count` quarters, a flow and a rent for each of their borders, and a
-- quantity for each bid and each demand
pub record HasShapes (books : Books) (count : ℕ) (joint : Joint) (a : Activation) (priced : Priced) : Type 0 where
  pub published : length priced.pricing.published.cents ≡ count * length books.zones.zones
  pub least : length priced.pricing.least.cents ≡ count * length books.zones.zones
  pub greatest : length priced.pricing.greatest.cents ≡ count * length books.zones.zones
  pub areas : length priced.areas.items ≡ count * length books.zones.zones
  pub flow : length a.flow ≡ count * length books.borders.borders
  pub rents : length priced.rents ≡ count * length books.borders.borders
  pub mw : length a.mw ≡ length joint.bids + joint.demands
  pub small : All IsSmall priced.rents

-- the place after that of a quarter with this part
pub record IsAfter (books : Books) (q : QuarterBlock) (at after : Place) : Type 0 where
  pub zones : after.zones ≡ at.zones + length books.zones.zones
  pub borders : after.borders ≡ at.borders + length books.borders.borders
  pub bids : after.bids ≡ at.bids + length q.bids
  pub demands : after.demands ≡ at.demands + length q.demands

module _ (books : Books) (joint : Joint) (a : Activation) (priced : Priced) where
  -- a quarter's zones, borders, bids and demands are there from this place on
  pub record IsThere (quarter : ℕ) (at : Place) : Type 0 where
    pub zones : at.zones + length books.zones.zones ≤ length priced.areas.items
    pub borders : at.borders + length books.borders.borders ≤ length priced.rents
    pub bids : at.bids + length (bids_of books joint.bids quarter) ≤ length joint.bids
    pub demands : at.demands + demand_count books quarter ≤ joint.demands

  -- the part of a quarter, cut out at this place
  pub record IsCutOut (quarter : ℕ) (at : Place) (q : QuarterBlock) : Type 0 where
    pub of_quarter : q.quarter ≡ quarter
    pub names : NameLines books (piece at.bids (length (bids_of books joint.bids quarter)) joint.bids) q.zones q.borders q.bids
    pub prices : map (λ (l : ZoneLine). l.price) q.zones ≡ piece at.zones (length books.zones.zones) priced.pricing.published.cents
    pub least : map (λ (l : ZoneLine). l.least) q.zones ≡ piece at.zones (length books.zones.zones) priced.pricing.least.cents
    pub greatest : map (λ (l : ZoneLine). l.greatest) q.zones ≡ piece at.zones (length books.zones.zones) priced.pricing.greatest.cents
    pub areas : map (λ (l : ZoneLine). l.area) q.zones ≡ piece at.zones (length books.zones.zones) priced.areas.items
    pub flow : map (λ (l : BorderLine). l.flow) q.borders ≡ piece at.borders (length books.borders.borders) a.flow
    pub rents : map (λ (l : BorderLine). l.rent) q.borders ≡ piece at.borders (length books.borders.borders) priced.rents
    pub mw : map (λ (l : BidLine). l.mw) q.bids ≡ piece at.bids (length (bids_of books joint.bids quarter)) a.mw
    pub demands : q.demands ≡ piece (length joint.bids + at.demands) (demand_count books quarter) a.mw

  -- the parts of the quarters before this one, up to this place
  pub record AreCutOut (first quarter : ℕ) (quarters : List QuarterBlock) (at : Place) : Type 0 where
    pub numbers : map (λ (q : QuarterBlock). q.quarter) quarters ≡ range_with_len first (quarter - first)
    pub each : All (IsQuarterBlock books joint) quarters
    pub fit : All QuarterFits quarters
    pub prices : prices_printed quarters ≡ take at.zones priced.pricing.published.cents
    pub least : least_printed quarters ≡ take at.zones priced.pricing.least.cents
    pub greatest : greatest_printed quarters ≡ take at.zones priced.pricing.greatest.cents
    pub areas : areas_printed quarters ≡ take at.zones priced.areas.items
    pub flow : map (λ (l : BorderLine). l.flow) (borders_printed quarters) ≡ take at.borders a.flow
    pub rents : rents_printed quarters ≡ take at.borders priced.rents
    pub ids : map (λ (l : BidLine). l.id) (bids_printed quarters) ≡ map (name_at books.bids.ids) (take at.bids joint.bids)
    pub mw : map (λ (l : BidLine). l.mw) (bids_printed quarters) ≡ take at.bids a.mw
    pub demands : demands_printed quarters ≡ take at.demands (drop (length joint.bids) a.mw)

  -- how far the lists of the quarters before this one reach
  pub record IsPlaceOf (first : ℕ) (kept : ℕ → List ℕ) (quarter : ℕ) (at : Place) : Type 0 where
    pub zones : at.zones ≡ (quarter - first) * length books.zones.zones
    pub borders : at.borders ≡ (quarter - first) * length books.borders.borders
    pub bids : at.bids ≡ length (flat_map kept (range_with_len first (quarter - first)))
    pub demands : at.demands ≡ length (flat_map (demands_brought books first) (range_with_len first (quarter - first)))

  -- the parts of the quarters from the first to the last
  pub record ArePrinted (first last : ℕ) (quarters : List QuarterBlock) : Type 0 where
    pub numbers : map (λ (q : QuarterBlock). q.quarter) quarters ≡ quarters_of first last
    pub each : All (IsQuarterBlock books joint) quarters
    pub fit : All QuarterFits quarters
    pub prices : prices_printed quarters ≡ priced.pricing.published.cents
    pub least : least_printed quarters ≡ priced.pricing.least.cents
    pub greatest : greatest_printed quarters ≡ priced.pricing.greatest.cents
    pub areas : areas_printed quarters ≡ priced.areas.items
    pub rents : rents_printed quarters ≡ priced.rents
    pub ids : map (λ (l : BidLine). l.id) (bids_printed quarters) ≡ map (name_at books.bids.ids) joint.bids
    pub activation : activation_printed quarters ≡ a
