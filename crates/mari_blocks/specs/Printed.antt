-- What is printed of a joint market: the first activation with its prices, areas and rents, a part for each quarter; or
-- how much of its search was made.
use Rattle.std.specs.Prelude.{◌≡◌, ◌==◌, ℕ, Bool, true, false, List, ◌++◌, Result, Ok, Err, ⊤, filter, length, map}
use Rattle.std.specs.List.{All, flat_map}
use Rattle.mari_units.specs.declared.numbers.Cents.{Cents}
use Rattle.mari_units.specs.declared.numbers.Quarters.{Quarters}
use Rattle.mari_rows.specs.Names.{name_at}
use Rattle.mari_market.specs.Area.{AreAreas}
use Rattle.mari_market.specs.Clearing.{IsClearing, IsUnpublished}
use Rattle.mari_market.specs.Interval.{AreIntervals}
use Rattle.mari_market.specs.Optimal.{IsConsistent}
use Rattle.mari_market.specs.declared.activation.Activation.{Activation}
use Rattle.mari_market.specs.declared.clearing.Clearing.{Clearing}
use Rattle.mari_market.specs.declared.market.Market.{Market}
use Rattle.mari_lines.specs.declared.line.BidLine.{BidLine}
use Rattle.mari_lines.specs.declared.line.BorderLine.{BorderLine}
use Rattle.mari_lines.specs.declared.line.ZoneLine.{ZoneLine}
use Rattle.mari_remain.specs.RunMarket.{demands_of_run}
use Rattle.mari_remain.specs.declared.books.Books.{Books}
use Rattle.mari_settle.specs.Ledger.{rents_of}
use Rattle.mari_progress.specs.Reported.{NameLines}
use Rattle.mari_blocks.specs.Blocks.{quarter_at}
use Rattle.mari_blocks.specs.Joint.{joint_in, quarters_of, run_of_quarter}
use Rattle.mari_blocks.specs.Prices.{AreOwnPrices, own_reference}
use Rattle.mari_blocks.specs.Text.{joint_text_of, unpublished_text_of}
use Rattle.mari_blocks.specs.declared.blocks.BlockBook.{BlockBook}
use Rattle.mari_blocks.specs.declared.checks.JointFault.{JointFault}
use Rattle.mari_blocks.specs.declared.checks.JointFault.TheVariants as fault
use Rattle.mari_blocks.specs.declared.clearing.JointText.{JointText}
use Rattle.mari_blocks.specs.declared.joint.Joint.{Joint}
use Rattle.mari_blocks.specs.declared.text.JointBlock.{JointBlock}
use Rattle.mari_blocks.specs.declared.text.QuarterBlock.{QuarterBlock}

-- the lines of zones of all quarters, one quarter's after the other's; those of borders and of bids; and the demands
abbrev pub zones_printed : List QuarterBlock → List ZoneLine
zones_printed quarters = flat_map (λ (q : QuarterBlock). q.zones) quarters

abbrev pub borders_printed : List QuarterBlock → List BorderLine
borders_printed quarters = flat_map (λ (q : QuarterBlock). q.borders) quarters

abbrev pub bids_printed : List QuarterBlock → List BidLine
bids_printed quarters = flat_map (λ (q : QuarterBlock). q.bids) quarters

abbrev pub demands_printed : List QuarterBlock → List ℕ
demands_printed quarters = flat_map (λ (q : QuarterBlock). q.demands) quarters

-- the activation that is printed: the MW of the bids and then of the demands, and the flows of the borders
abbrev pub activation_printed : List QuarterBlock → Activation
activation_printed quarters = record {
  mw = map (λ (l : BidLine). l.mw) (bids_printed quarters) ++ demands_printed quarters;
  flow = map (λ (l : BorderLine). l.flow) (borders_printed quarters);
}

-- zone by zone the price, the least and the greatest price, and the number of the area; and the rents of the borders
abbrev pub prices_printed : List QuarterBlock → List Cents
prices_printed quarters = map (λ (l : ZoneLine). l.price) (zones_printed quarters)

abbrev pub least_printed : List QuarterBlock → List Cents
least_printed quarters = map (λ (l : ZoneLine). l.least) (zones_printed quarters)

abbrev pub greatest_printed : List QuarterBlock → List Cents
greatest_printed quarters = map (λ (l : ZoneLine). l.greatest) (zones_printed quarters)

abbrev pub areas_printed : List QuarterBlock → List ℕ
areas_printed quarters = map (λ (l : ZoneLine). l.area) (zones_printed quarters)

abbrev pub rents_printed : List QuarterBlock → List Quarters
rents_printed quarters = map (λ (l : BorderLine). l.rent) (borders_printed quarters)

-- the clearing that is printed
abbrev pub clearing_printed : JointBlock → Clearing
clearing_printed b = record { activation = activation_printed b.quarters; welfare = b.welfare; tree = b.tree }

-- the bids of a quarter among these
abbrev pub bids_of : Books → (numbers : List ℕ) → (quarter : ℕ) → List ℕ
bids_of books numbers quarter = filter (λ bid. quarter_at books.bids bid == quarter) numbers

-- how many demands a quarter's scheduled run has
abbrev pub demand_count : Books → (quarter : ℕ) → ℕ
demand_count books quarter = length (demands_of_run books.demands.demands (run_of_quarter books.runs.runs quarter))

-- the part of a quarter names each zone and border, and those bids of the joint market that are the quarter's, and it
-- has a line for each demand of the quarter's scheduled run
pub record IsQuarterBlock (books : Books) (joint : Joint) (q : QuarterBlock) : Type 0 where
  pub lines : NameLines books (bids_of books joint.bids q.quarter) q.zones q.borders q.bids
  pub demands : length q.demands ≡ demand_count books q.quarter

-- each zone has the price of its interval that is nearest to its own quarter's reference, and together these prices are
-- consistent, so that no order of a block is at a loss in its quarter; its least and its greatest consistent price; and
-- the number of its area, counted over the joint market
pub record AreJointPrices (books : Books) (first : ℕ) (m : Market) (a : Activation) (ps lows highs : List Cents) (numbers : List ℕ) : Type 0 where
  pub published : AreOwnPrices m a (own_reference books first) ps
  pub consistent : IsConsistent m a ps
  pub intervals : AreIntervals m a lows highs
  pub areas : AreAreas m a numbers

-- the block of a joint market that is published: a part for each quarter in order, which together name the joint
-- market's bids; its first activation, with its welfare and a certificate tree of at most `budget` items that holds at
-- it for its gate word; the prices of its zones; and the rents of its borders at these prices
pub record IsJointBlock (books : Books) (first last budget : ℕ) (joint : Joint) (b : JointBlock) : Type 0 where
  pub from_first : b.first ≡ first
  pub to_last : b.last ≡ last
  pub quarters : map (λ (q : QuarterBlock). q.quarter) b.quarters ≡ quarters_of first last
  pub each : All (IsQuarterBlock books joint) b.quarters
  pub bids : map (λ (l : BidLine). l.id) (bids_printed b.quarters) ≡ map (name_at books.bids.ids) joint.bids
  pub clearing : IsClearing joint.market budget (clearing_printed b)
  pub prices : AreJointPrices books first joint.market (activation_printed b.quarters) (prices_printed b.quarters) (least_printed b.quarters)
      (greatest_printed b.quarters) (areas_printed b.quarters)
  pub rents : rents_printed b.quarters ≡ rents_of joint.market (activation_printed b.quarters) (prices_printed b.quarters)

-- the text of a joint market: that of its block, where it is published, or that it isn't
pub data IsTextOf (books : Books) (first last budget : ℕ) (joint : Joint) : Bool → List ℕ → Type 0 where
  Published : (b : JointBlock) → IsJointBlock books first last budget joint b → IsTextOf books first last budget joint true (joint_text_of b)
  Unpublished : (count : ℕ) → IsUnpublished joint.market budget count → IsTextOf books first last budget joint false (unpublished_text_of first last count)

-- the text of the joint market of these quarters, which there is
pub record IsJointText (books : Books) (blocks : BlockBook) (first last budget : ℕ) (published : Bool) (text : List ℕ) : Type 0 where
  pub joint : Joint
  pub made : joint_in books blocks first last ≡ Ok joint
  pub is_text : IsTextOf books first last budget joint published text

-- the text is there, or the refusal of what can't be one market, unless out of memory
abbrev pub GivesText : Books → BlockBook → (first last budget : ℕ) → Result JointText JointFault → Type 0
GivesText books blocks first last budget (Ok printed) = IsJointText books blocks first last budget printed.published printed.text
GivesText books blocks first last budget (Err (fault.Refused refusal)) = joint_in books blocks first last ≡ Err refusal
GivesText books blocks first last budget (Err fault.Memory) = ⊤
