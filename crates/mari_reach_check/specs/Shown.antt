-- What a block of the second form shows where it has none of the faults.
use Rattle.std.specs.Prelude.{◌≡◌, pos, ◌+ℤ◌, ◌≤ℤ◌, List, Option}
use Rattle.mari_units.specs.declared.numbers.Cents.{Cents}
use Rattle.mari_market.specs.declared.activation.Activation.{Activation}
use Rattle.mari_market.specs.declared.market.Market.{Market}
use Rattle.mari_market.specs.Activation.{welfare_of}
use Rattle.mari_market.specs.First.{IsFirst}
use Rattle.mari_market.specs.Optimal.{IsAdmissible}
use Rattle.mari_remain.specs.declared.books.Books.{Books}
use Rattle.mari_remain.specs.declared.market.RunMarket.{RunMarket}
use Rattle.mari_progress.specs.Keeps.{SumsToZero}
use Rattle.mari_progress.specs.Money.{HasLedger}
use Rattle.mari_progress.specs.Prices.{HasPrices}
use Rattle.mari_progress.specs.Reported.{activation_of}
use Rattle.mari_reach_lines.specs.declared.line.Claim.{Claim}
use Rattle.mari_reach_lines.specs.declared.line.Claim.TheVariants.{First, Within}
use Rattle.mari_reach_text.specs.declared.named.NamedBlock.{NamedBlock}

-- what a block says of its activation is so: it is the first, or no admissible one is better by more than the gap
abbrev pub IsSoOf : Market → Activation → Claim → Type 0
IsSoOf m a First = IsFirst m a
IsSoOf m a (Within gap) = (other : Activation) → IsAdmissible m other → welfare_of m other ≤ℤ (welfare_of m a +ℤ gap.0)

-- an admissible activation, of which that is so; its welfare; the prices, which are consistent with it, the intervals and
-- areas; the ledger, whose nets sum to 0 and in which no rent is negative
pub record ShowsReach (books : Books) (made : RunMarket) (also : Option (List Cents)) (b : NamedBlock) : Type 0 where
  pub admissible : IsAdmissible made.market (activation_of b.block)
  pub claim : IsSoOf made.market (activation_of b.block) b.claim
  pub welfare : welfare_of made.market (activation_of b.block) ≡ pos b.block.welfare
  pub prices : HasPrices made.market b.block
  pub ledger : HasLedger books made also b.block
  pub sums : SumsToZero b.block
