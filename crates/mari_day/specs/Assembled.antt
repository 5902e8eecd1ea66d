-- A block put together from what was computed of a run.
use Rattle.std.specs.Prelude.{◌≡◌, ◌≤◌, ℕ, List, Option, length, map, take, drop}
use Rattle.mari_units.specs.declared.numbers.Cents.{Cents}
use Rattle.mari_market.specs.declared.clearing.Clearing.{Clearing}
use Rattle.mari_lines.specs.declared.line.BidLine.{BidLine}
use Rattle.mari_lines.specs.declared.line.BorderLine.{BorderLine}
use Rattle.mari_publish.specs.declared.publication.FullBlock.{FullBlock}
use Rattle.mari_remain.specs.declared.books.Books.{Books}
use Rattle.mari_remain.specs.declared.market.RunMarket.{RunMarket}
use Rattle.mari_settle.specs.Ledger.{operator_lines, provider_amounts, rents_of, scheduled_or}
use Rattle.mari_settle.specs.Conditions.{HasSmallNumbers}
use Rattle.mari_day.specs.declared.block.Priced.{Priced}
use Rattle.mari_progress.specs.Money.{StatesLedger, providers_among}
use Rattle.mari_progress.specs.Runs.{IsBalancedLedger}
use Rattle.mari_progress.specs.Reported.{NamesLines, areas_of, greatest_reported, heading_of, least_reported, prices_of}
use Rattle.mari_progress.specs.Prices.{AreZonePrices}

-- what the lines of zones state
pub record HasZoneLines (priced : Priced) (b : FullBlock) : Type 0 where
  pub prices : prices_of b ≡ priced.pricing.published.cents
  pub least : least_reported b ≡ priced.pricing.least.cents
  pub greatest : greatest_reported b ≡ priced.pricing.greatest.cents
  pub areas : areas_of b ≡ priced.areas.items

-- what the lines of bids state, and the demands
pub record HasOrderLines (numbers : List ℕ) (clearing : Clearing) (b : FullBlock) : Type 0 where
  pub mw : map (λ (l : BidLine). l.mw) b.bids ≡ take (length numbers) clearing.activation.mw
  pub demands : b.demands ≡ drop (length numbers) clearing.activation.mw

-- the block of a clearing, with what is known of its prices and its money
pub record IsAssembled (books : Books) (run : ℕ) (numbers : List ℕ) (clearing : Clearing) (priced : Priced) (b : FullBlock) : Type 0 where
  pub heading : b.heading ≡ heading_of books run
  pub welfare : b.welfare ≡ clearing.welfare
  pub tree : b.tree ≡ clearing.tree
  pub names : NamesLines books numbers b
  pub zones : HasZoneLines priced b
  pub flow : map (λ (l : BorderLine). l.flow) b.borders ≡ clearing.activation.flow
  pub orders : HasOrderLines numbers clearing b
  pub ledger : StatesLedger books b priced.ledger (providers_among books.bids.bids numbers)

-- one price of each kind and one area for each zone, a flow and a rent for each border, a quantity for each bid, an
-- amount for each provider, and a line for each operator, all of them small
pub record HasShapes (books : Books) (numbers : List ℕ) (clearing : Clearing) (priced : Priced) : Type 0 where
  pub published : length priced.pricing.published.cents ≡ length books.zones.zones
  pub least : length priced.pricing.least.cents ≡ length books.zones.zones
  pub greatest : length priced.pricing.greatest.cents ≡ length books.zones.zones
  pub areas : length priced.areas.items ≡ length books.zones.zones
  pub flow : length clearing.activation.flow ≡ length books.borders.borders
  pub rents : length priced.ledger.rents ≡ length books.borders.borders
  pub mw : length numbers ≤ length clearing.activation.mw
  pub operators : length priced.ledger.operators ≡ length books.zones.operators
  pub providers : length priced.ledger.providers ≡ length books.bids.providers
  pub small : HasSmallNumbers priced.ledger

-- the prices, areas and ledger of a run's clearing, whose quarter has these scheduled prices, or none
-- The ledger is three facts here and three clauses of `settle_run` and `ledger_of`, each citing the one definition of
-- `mari_settle`.
pub record IsPriced (books : Books) (made : RunMarket) (also : Option (List Cents)) (clearing : Clearing) (priced : Priced) : Type 0 where
  pub prices : AreZonePrices made.market clearing.activation priced.pricing.published.cents priced.pricing.least.cents
      priced.pricing.greatest.cents priced.areas.items
  pub operators : priced.ledger.operators ≡ operator_lines books.zones made.market clearing.activation priced.pricing.published.cents
  pub providers : priced.ledger.providers ≡ provider_amounts books.bids made.bids clearing.activation priced.pricing.published.cents
      (scheduled_or priced.pricing.published.cents also)
  pub rents : priced.ledger.rents ≡ rents_of made.market clearing.activation priced.pricing.published.cents
  pub balanced : IsBalancedLedger priced.ledger
