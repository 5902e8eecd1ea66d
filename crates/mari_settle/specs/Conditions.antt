-- What the calls of the ledger ask of what they are given, and how large its numbers are.
use Rattle.std.specs.Prelude.{◌≡◌, ℕ, ◌<◌, ◌*◌, ◌^◌, ◌+ℤ◌, List, length, take, slice_get, IsSomeAnd}
use Rattle.std.specs.List.{All, AllZip}
use Rattle.mari_units.specs.Numbers.{Within}
use Rattle.mari_units.specs.declared.numbers.Quarters.{Quarters}
use Rattle.mari_zones.specs.declared.zones.ZoneBook.{ZoneBook}
use Rattle.mari_bids.specs.declared.bids.Bid.{Bid}
use Rattle.mari_bids.specs.declared.bids.BidBook.{BidBook}
use Rattle.mari_market.specs.declared.market.Order.{Order}
use Rattle.mari_market.specs.declared.market.Market.{Market}
use Rattle.mari_market.specs.declared.activation.Activation.{Activation}
use Rattle.mari_market.specs.Activation.{IsWithinLimits}
use Rattle.mari_market.specs.Market.{IsValid}
use Rattle.mari_market.specs.Price.{ArePrices}
use Rattle.mari_market.specs.Sides.{side_of}
use Rattle.mari_units.specs.declared.numbers.Cents.{Cents}
use Rattle.mari_settle.specs.declared.ledger.OperatorLine.{OperatorLine}
use Rattle.mari_settle.specs.declared.ledger.Ledger.{Ledger}

-- each bid's provider is one of the book
abbrev pub HasProviders : BidBook → Type 0
HasProviders bids = All (λ (bid : Bid). bid.provider < length bids.providers) bids.bids

-- a bid of one of the first `zones` zones, whose provider is one of the book
pub record IsPayable (bids : BidBook) (zones : ℕ) (bid : Bid) : Type 0 where
  pub zone : bid.zone < zones
  pub provider : bid.provider < length bids.providers

-- the number names such a bid
abbrev pub NamesPayable : BidBook → ℕ → ℕ → Type 0
NamesPayable bids zones number = IsSomeAnd (slice_get bids.bids number) (IsPayable bids zones)

-- a flow for each border, within its limits
pub record HasFlows (m : Market) (a : Activation) : Type 0 where
  pub one_each : length a.flow ≡ length m.borders
  pub within : AllZip IsWithinLimits m.borders a.flow

-- what operators' lines are made of: a valid market, each of whose zones has an operator and a price within the cap,
-- and flows within the borders' limits
pub record Settles (zones : ZoneBook) (m : Market) (a : Activation) (ps : List Cents) : Type 0 where
  pub market : IsValid m
  pub operators : length zones.operator_of ≡ m.zones
  pub prices : ArePrices m ps
  pub flows : HasFlows m a

-- the order has the bid's zone, and the side of its direction
pub record IsOrderOf (order : Order) (bid : Bid) : Type 0 where
  pub zone : order.zone ≡ bid.zone
  pub side : order.side ≡ side_of bid.up

-- the numbers name bids that are there, those of the first orders
abbrev pub NameOrders : List Bid → List ℕ → List Order → Type 0
NameOrders bids numbers orders = AllZip (λ number order. IsSomeAnd (slice_get bids number) (IsOrderOf order)) numbers (take (length numbers) orders)

-- one line for each operator, one amount for each provider, one rent for each border of the market
pub record FitsRun (ledger : Ledger) (zones : ZoneBook) (bids : BidBook) (m : Market) : Type 0 where
  pub operators : length ledger.operators ≡ length zones.operators
  pub providers : length ledger.providers ≡ length bids.providers
  pub rents : length ledger.rents ≡ length m.borders

-- the sum of two amounts lies within 10^30 quarter-cents of 0
abbrev pub AddUp : Quarters → Quarters → Type 0
AddUp a b = Within (10 ^ 30) (a.0 +ℤ b.0)

-- so do the sums of two operators' lines
pub record LinesAddUp (a b : OperatorLine) : Type 0 where
  pub payment : AddUp a.payment b.payment
  pub rent : AddUp a.rent b.rent

-- and those of two ledgers, which have equal numbers of lines, amounts and rents
pub record LedgersAddUp (a b : Ledger) : Type 0 where
  pub operators : AllZip LinesAddUp a.operators b.operators
  pub providers : AllZip AddUp a.providers b.providers
  pub rents : AllZip AddUp a.rents b.rents

-- an amount within `most` quarter-cents of 0
abbrev pub MoneyIsWithin : ℕ → Quarters → Type 0
MoneyIsWithin most a = Within most a.0

-- so are the two of an operator's line
pub record LineIsWithin (most : ℕ) (line : OperatorLine) : Type 0 where
  pub payment : MoneyIsWithin most line.payment
  pub rent : MoneyIsWithin most line.rent

-- so is every number of a ledger
pub record LedgerIsWithin (most : ℕ) (ledger : Ledger) : Type 0 where
  pub operators : All (LineIsWithin most) ledger.operators
  pub providers : All (MoneyIsWithin most) ledger.providers
  pub rents : All (MoneyIsWithin most) ledger.rents

-- how far from 0 the numbers of one run's ledger are at most, in quarter-cents: an operator's, a provider's, and any
abbrev pub most_of_operator : ℕ
most_of_operator = 2 * 10 ^ 15

abbrev pub most_of_provider : ℕ
most_of_provider = 4 * 10 ^ 15

abbrev pub most_of_run : ℕ
most_of_run = 10 ^ 17

-- the numbers of one run's ledger are small: within `most_of_run`
abbrev pub IsSmall : Quarters → Type 0
IsSmall a = MoneyIsWithin most_of_run a

abbrev pub IsSmallLine : OperatorLine → Type 0
IsSmallLine line = LineIsWithin most_of_run line

abbrev pub HasSmallNumbers : Ledger → Type 0
HasSmallNumbers ledger = LedgerIsWithin most_of_run ledger
