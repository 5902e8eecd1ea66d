-- What a published block shows where it has none of the faults.
use Rattle.std.specs.Prelude.{◌≡◌, pos, List, Option}
use Rattle.mari_units.specs.declared.numbers.Cents.{Cents}
use Rattle.mari_market.specs.Activation.{welfare_of}
use Rattle.mari_market.specs.First.{IsFirst}
use Rattle.mari_publish.specs.declared.publication.FullBlock.{FullBlock}
use Rattle.mari_remain.specs.declared.books.Books.{Books}
use Rattle.mari_remain.specs.declared.market.RunMarket.{RunMarket}
use Rattle.mari_progress.specs.Keeps.{SumsToZero}
use Rattle.mari_progress.specs.Money.{HasLedger}
use Rattle.mari_progress.specs.Prices.{HasPrices}
use Rattle.mari_progress.specs.Reported.{activation_of}

-- the first activation of the market, whoever printed it; its welfare; the prices, which are consistent with it, the
-- intervals and areas; the ledger, whose nets sum to 0 and in which no rent is negative
pub record ShowsRun (books : Books) (made : RunMarket) (also : Option (List Cents)) (b : FullBlock) : Type 0 where
  pub first : IsFirst made.market (activation_of b)
  pub welfare : welfare_of made.market (activation_of b) ≡ pos b.welfare
  pub prices : HasPrices made.market b
  pub ledger : HasLedger books made also b
  pub sums : SumsToZero b
