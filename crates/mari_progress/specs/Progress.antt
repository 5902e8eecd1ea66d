-- What is kept of a day between its blocks, and the blocks that it stands for.
use Rattle.std.specs.Prelude.{ℕ, ◌≡◌, ◌≤◌, ◌<◌, ◌*◌, ◌==◌, pos, List, [], Option, Some, None, IfSome, if◌then◌else◌, length, map}
use Rattle.std.specs.List.{All, range_with_len}
use Rattle.mari_units.specs.declared.numbers.Cents.{Cents}
use Rattle.mari_market.specs.Price.{IsCapped}
use Rattle.mari_market.specs.Sums.{int_sum}
use Rattle.mari_publish.specs.declared.publication.Block.{Block}
use Rattle.mari_publish.specs.declared.publication.Block.TheVariants as block
use Rattle.mari_publish.specs.declared.publication.FullBlock.{FullBlock}
use Rattle.mari_publish.specs.Lines.{published_in}
use Rattle.mari_remain.specs.declared.books.Books.{Books}
use Rattle.mari_remain.specs.FirstBlocks.{StandsFor}
use Rattle.mari_remain.specs.Lists.{run_numbered}
use Rattle.mari_settle.specs.Conditions.{MoneyIsWithin, LineIsWithin, most_of_operator, most_of_provider, most_of_run}
use Rattle.mari_settle.specs.Ledger.{net_of}
use Rattle.mari_settle.specs.declared.ledger.Ledger.{Ledger}
use Rattle.mari_progress.specs.declared.progress.Progress.{Progress}
use Rattle.mari_progress.specs.declared.progress.Scheduled.{Scheduled}
use Rattle.mari_progress.specs.After.{before_of, last_scheduled, scheduled_prices}
use Rattle.mari_progress.specs.Money.{money_lines_of}
use Rattle.mari_progress.specs.Totals.{amount_over, operator_totals}

-- a printed block that is published
abbrev pub published_block : FullBlock → Block
published_block b = block.Published b

-- the ledger has the sums over the blocks, which grow with their number, and its nets sum to 0
pub record AreTotals (books : Books) (blocks : List Block) (ledger : Ledger) : Type 0 where
  pub operators : money_lines_of books.zones.operators ledger.operators ≡ operator_totals books blocks
  pub providers : ledger.providers ≡ map (λ provider. record { 0 = amount_over books [] blocks provider }) (range_with_len 0 (length books.bids.providers))
  pub one_each : length ledger.operators ≡ length books.zones.operators
  pub rents : length ledger.rents ≡ length books.borders.borders
  pub operators_within : All (LineIsWithin (length blocks * most_of_operator)) ledger.operators
  pub providers_within : All (MoneyIsWithin (length blocks * most_of_provider)) ledger.providers
  pub rents_within : All (MoneyIsWithin (length blocks * most_of_run)) ledger.rents
  pub nets : int_sum net_of ledger.operators ≡ pos 0

-- the prices that are kept, for a run of a quarter
abbrev pub kept_for : (quarter : ℕ) → Option Scheduled → Option (List Cents)
kept_for quarter None = None
kept_for quarter (Some kept) = if kept.quarter == quarter then Some kept.prices.cents else None

-- one price within the cap for each zone, of no later quarter than that of any run to come
pub record IsScheduled (books : Books) (blocks : List Block) (kept : Scheduled) : Type 0 where
  pub one_each : length kept.prices.cents ≡ length books.zones.zones
  pub capped : All IsCapped kept.prices.cents
  pub earlier : (r : ℕ) → length blocks < r → r ≤ length books.runs.runs → kept.quarter ≤ (run_numbered books r).quarter

-- the prices and the quarter that are kept are those of the last published scheduled block, and none where there is
-- none; so for each run to come they are those of the scheduled block of its quarter
pub record KeepsPrices (books : Books) (blocks : List Block) (kept : Option Scheduled) : Type 0 where
  pub last : kept ≡ last_scheduled blocks
  pub same : (r : ℕ) → length blocks < r → r ≤ length books.runs.runs
      → scheduled_prices (run_numbered books r).quarter blocks ≡ kept_for (run_numbered books r).quarter kept
  pub priced : IfSome kept (IsScheduled books blocks)

-- what is kept stands for blocks of the first runs: what they left, the sums of their ledgers, the scheduled prices,
-- and how many of them are published
pub record IsProgress (books : Books) (blocks : List Block) (p : Progress) : Type 0 where
  pub few : length blocks ≤ length books.runs.runs
  pub stands : StandsFor books (before_of books blocks) p.remaining
  pub totals : AreTotals books blocks p.totals
  pub scheduled : KeepsPrices books blocks p.scheduled
  pub published : p.published ≡ published_in blocks
