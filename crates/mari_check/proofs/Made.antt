-- The market that a block is checked with is one of the books.
use Rattle.std.proofs.Common.{ℕ, sym, subst}
use Rattle.mari_remain.specs.Accepted.{IsAccepted}
use Rattle.mari_remain.specs.declared.books.Books.{Books}
use Rattle.mari_remain.specs.declared.market.RunMarket.{RunMarket}
use Rattle.mari_progress.specs.Runs.{IsMarketOf}
use Rattle.mari_progress.proofs.Made.{market-of}
use Rattle.mari_check.specs.Markets.{IsMadeFor}

pub made-is : (books : Books) (run : ℕ) (made : RunMarket) → IsAccepted books → IsMadeFor books run made → IsMarketOf books made
made-is books run made ok is = subst (IsMarketOf books) (sym is.made_of) (market-of books ok is.blocks is.first run is.from_one is.there)
