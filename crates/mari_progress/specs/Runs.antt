-- A run after the blocks of the runs before it: its market, what its block has to state, and what that adds to its day.
use Rattle.std.specs.Prelude.{◌≡◌, ◌<◌, ◌≤◌, ◌+◌, pos, List, Option, length, take}
use Rattle.std.specs.List.{All}
use Rattle.mari_units.specs.declared.numbers.Cents.{Cents}
use Rattle.mari_market.specs.declared.market.Order.{Order}
use Rattle.mari_market.specs.Market.{IsValid}
use Rattle.mari_market.specs.Optimal.{IsConsistent, IsFeasible}
use Rattle.mari_market.specs.Sums.{int_sum}
use Rattle.mari_publish.specs.declared.publication.Block.{Block}
use Rattle.mari_publish.specs.declared.publication.Block.TheVariants as block
use Rattle.mari_publish.specs.declared.publication.FullBlock.{FullBlock}
use Rattle.mari_remain.specs.declared.books.Books.{Books}
use Rattle.mari_remain.specs.declared.market.RunMarket.{RunMarket}
use Rattle.mari_settle.specs.Conditions.{HasSmallNumbers, MoneyIsWithin, LineIsWithin, NameOrders, most_of_operator, most_of_provider}
use Rattle.mari_settle.specs.Ledger.{net_of}
use Rattle.mari_settle.specs.declared.ledger.Ledger.{Ledger}
use Rattle.mari_progress.specs.declared.progress.SettledRun.{SettledRun}
use Rattle.mari_progress.specs.After.{also_after, market_after, run_after}
use Rattle.mari_progress.specs.Money.{HasLedger, amounts_of, money_lines_of}
use Rattle.mari_progress.specs.Reported.{NamesMarket, activation_of, heading_of, prices_of}
use Rattle.mari_units.specs.declared.limits.TheConstants.{MOST_BID_MW, MOST_BIDS, MOST_DEMANDS}

-- a market of these books: it is valid, over their zones and borders; its first orders are those of bids that are
-- there, of at most `MOST_BID_MW` each, and the others those of at most `MOST_DEMANDS` demands
pub record IsMarketOf (books : Books) (made : RunMarket) : Type 0 where
  pub valid : IsValid made.market
  pub zones : made.market.zones ≡ length books.zones.zones
  pub borders : length made.market.borders ≡ length books.borders.borders
  pub orders : length made.market.orders ≡ length made.bids + made.demands
  pub there : All (λ number. number < length books.bids.bids) made.bids
  pub few : length made.bids ≤ MOST_BIDS
  pub few_demands : made.demands ≤ MOST_DEMANDS
  pub named : NameOrders books.bids.bids made.bids made.market.orders
  pub small : All (λ (o : Order). o.greatest ≤ MOST_BID_MW) (take (length made.bids) made.market.orders)

-- what a later block rests on of a published one after these blocks: its heading, names, activation, prices and ledger
-- are its run's
pub record IsSoundRun (books : Books) (before : List Block) (b : FullBlock) : Type 0 where
  pub heading : b.heading ≡ heading_of books (run_after before)
  pub names : NamesMarket books (market_after books before) b
  pub feasible : IsFeasible (market_after books before).market (activation_of b)
  pub consistent : IsConsistent (market_after books before).market (activation_of b) (prices_of b)
  pub ledger : HasLedger books (market_after books before) (also_after books before) b

-- and of an unpublished one, its heading
abbrev pub IsSoundBlock : Books → (before : List Block) → Block → Type 0
IsSoundBlock books before (block.Published b) = IsSoundRun books before b
IsSoundBlock books before (block.Unpublished heading count) = heading ≡ heading_of books (run_after before)

-- the ledger of a run is small, so that those of a day can be added up, and what some operators pay the others get
pub record IsBalancedLedger (ledger : Ledger) : Type 0 where
  pub small : HasSmallNumbers ledger
  pub operators_small : All (LineIsWithin most_of_operator) ledger.operators
  pub providers_small : All (MoneyIsWithin most_of_provider) ledger.providers
  pub nets : int_sum net_of ledger.operators ≡ pos 0

-- what the block of a run adds to its day: the market, the activation and the prices that it states, and its ledger,
-- which is small
pub record IsRunOf (books : Books) (made : RunMarket) (also : Option (List Cents)) (b : FullBlock) (settled : SettledRun) : Type 0 where
  pub market : settled.made ≡ made
  pub activation : settled.activation ≡ activation_of b
  pub prices : settled.prices.cents ≡ prices_of b
  pub operators : b.operators ≡ money_lines_of books.zones.operators settled.ledger.operators
  pub providers : settled.ledger.providers ≡ amounts_of books made also b
  pub one_each : length settled.ledger.operators ≡ length books.zones.operators
  pub rents : length settled.ledger.rents ≡ length books.borders.borders
  pub balanced : IsBalancedLedger settled.ledger

-- a published block of the run after these blocks, and what it adds
pub record IsNextRun (books : Books) (before : List Block) (b : FullBlock) (settled : SettledRun) : Type 0 where
  pub sound : IsSoundRun books before b
  pub adds : IsRunOf books (market_after books before) (also_after books before) b settled
