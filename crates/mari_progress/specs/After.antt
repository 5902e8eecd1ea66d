-- What the blocks printed before a run say of it.
use Rattle.std.specs.Prelude.{ℕ, ◌+◌, ◌==◌, ◌&&◌, not, List, Option, Some, None, fold, if◌then◌else◌, length, map}
use Rattle.mari_units.specs.declared.numbers.Cents.{Cents}
use Rattle.mari_rows.specs.Names.{place_in}
use Rattle.mari_lines.specs.declared.line.BidLine.{BidLine}
use Rattle.mari_publish.specs.declared.publication.Block.{Block}
use Rattle.mari_publish.specs.declared.publication.Block.TheVariants as block
use Rattle.mari_remain.specs.declared.books.Books.{Books}
use Rattle.mari_remain.specs.declared.market.RunMarket.{RunMarket}
use Rattle.mari_remain.specs.Blocks.{PastBlock}
use Rattle.mari_remain.specs.Lists.{run_numbered}
use Rattle.mari_remain.specs.RunMarket.{run_market_of}
use Rattle.mari_progress.specs.Reported.{activation_of, prices_of}
use Rattle.mari_progress.specs.declared.progress.Scheduled.{Scheduled}

-- a printed block as the market of a later run reads it: its heading, and of a published one the numbers of its bids,
-- by their names, and its activation
abbrev pub past_of : Books → Block → PastBlock
past_of books (block.Published b) = record {
  run = b.heading.run;
  quarter = b.heading.quarter;
  direct = b.heading.direct;
  published = Some (record { bids = map (λ (l : BidLine). place_in books.bids.ids l.id) b.bids; activation = activation_of b });
}
past_of books (block.Unpublished heading count) = record { run = heading.run; quarter = heading.quarter; direct = heading.direct; published = None }

abbrev pub before_of : Books → List Block → List PastBlock
before_of books blocks = map (past_of books) blocks

-- the run after these blocks, counted from 1, and its market
abbrev pub run_after : List Block → ℕ
run_after blocks = length blocks + 1

abbrev pub market_after : Books → List Block → RunMarket
market_after books blocks = run_market_of books (before_of books blocks) (run_after blocks)

-- the prices of a published scheduled block of the quarter; with any other block those before it stay
abbrev pub scheduled_in : (quarter : ℕ) → Option (List Cents) → Block → Option (List Cents)
scheduled_in quarter before (block.Published b) = if not b.heading.direct && b.heading.quarter == quarter then Some (prices_of b) else before
scheduled_in quarter before (block.Unpublished heading count) = before

-- the printed prices of the published scheduled block of a quarter, if these blocks have one
abbrev pub scheduled_prices : (quarter : ℕ) → List Block → Option (List Cents)
scheduled_prices quarter blocks = fold (scheduled_in quarter) None blocks

-- the quarter and the prices of a published scheduled block; with any other block those before it stay
abbrev pub last_in : Option Scheduled → Block → Option Scheduled
last_in before (block.Published b) = if b.heading.direct then before else Some (record { quarter = b.heading.quarter; prices = record { cents = prices_of b } })
last_in before (block.Unpublished heading count) = before

-- the quarter and the printed prices of the last published scheduled block, if these blocks have one
abbrev pub last_scheduled : List Block → Option Scheduled
last_scheduled blocks = fold last_in None blocks

-- the scheduled prices of the run after these blocks: a direct run has those of its quarter, a scheduled run has none
abbrev pub also_after : Books → List Block → Option (List Cents)
also_after books blocks =
    if (run_numbered books (run_after blocks)).direct then scheduled_prices (run_numbered books (run_after blocks)).quarter blocks else None
