-- The block of a run for whose market an answer was found.
use Rattle.std.proofs.Common.{◌≡◌, ◌∙◌, ℕ, ◌≤◌, ℤ, pos, negsuc, ◌≤ℤ◌, List, [], Option, sym, ap, subst, arith}
use Rattle.std.specs.Int.RustNames.{unsigned_abs}
use Rattle.std.proofs.lemmas.Int.{ints}
use Rattle.mari_units.specs.declared.numbers.Cents.{Cents}
use Rattle.mari_market.specs.declared.certificate.TreeItem.{TreeItem}
use Rattle.mari_market.specs.declared.clearing.Clearing.{Clearing}
use Rattle.mari_market.specs.declared.market.Market.{Market}
use Rattle.mari_market.specs.Optimal.{IsAdmissible}
use Rattle.mari_lines.specs.declared.line.TheConstants.{MOST_MONEY}
use Rattle.mari_publish.specs.declared.publication.FullBlock.{FullBlock}
use Rattle.mari_publish.specs.Ranges.{EndingFits, MarketFits}
use Rattle.mari_remain.specs.declared.books.Books.{Books}
use Rattle.mari_remain.specs.declared.market.RunMarket.{RunMarket}
use Rattle.mari_progress.specs.After.{also_after, market_after, run_after}
use Rattle.mari_day.specs.Published.{IsReportedOf}
use Rattle.mari_reach.specs.declared.decisions.ReachItem.{ReachItem}
use Rattle.mari_reach.specs.declared.dual.TheConstants.{MOST_VALUE}
use Rattle.mari_reached.specs.Answer.{IsAnswer, IsWithinBudget}
use Rattle.mari_reached.specs.declared.answer.Found.{Found}
use Rattle.mari_reach_lines.specs.Ranges.{IsClaim}
use Rattle.mari_reach_lines.specs.declared.line.Claim.{Claim}
use Rattle.mari_reach_lines.specs.declared.line.Claim.TheVariants.{First, Within}
use Rattle.mari_reach_day.specs.declared.block.ReachBlock.{ReachBlock}
use Rattle.mari_reach_day.specs.Reach.{IsReachBlock, IsReachOf, answered, blocks_of, found_in}
use Rattle.mari_reach_text.specs.Numbers.{gated_of}
use Rattle.mari_reach_day.specs.Ranges.{ReachFits}

-- a gap within the greatest dual value is an amount of money of a line
gap_size : (z : ℤ) → pos 0 ≤ℤ z → z ≤ℤ pos MOST_VALUE → unsigned_abs z ≤ MOST_MONEY
gap_size (pos n) low high = omega (arith, ints, high)
gap_size (negsuc n) low high = omega (arith, ints, low)

-- what an answer found is admissible, and its tree and its gap are small
module _ (m : Market) (budget : ℕ) where
  pub admissible : (claim : Claim) (f : Found) → IsAnswer m budget (answered claim f) → IsAdmissible m f.activation
  admissible First f is = is.first.optimal.admissible
  admissible (Within gap) f is = is.admissible

  pub items : (claim : Claim) (f : Found) → IsAnswer m budget (answered claim f) → IsWithinBudget budget f.tree
  items First f is = is.items
  items (Within gap) f is = is.items

  claim_fits : (claim : Claim) (f : Found) → IsAnswer m budget (answered claim f) → IsClaim claim
  claim_fits First f is = tt
  claim_fits (Within gap) f is = (gap_size gap.0 is.least is.most, is.least)

  pub reach_fits : (claim : Claim) (f : Found) → IsAnswer m budget (answered claim f) → budget ≤ 50000 → (b : FullBlock) → MarketFits b → EndingFits b
      → (gated : List ℕ) → ReachFits (record { block = b; claim = claim; tree = f.tree; gated = gated })
  reach_fits claim f is small b market ending gated = record {
    market = market;
    ending = ending;
    claim = claim_fits claim f is;
    tree = omega (arith, (items claim f is).few, small);
  }

abbrev as_found : List ReachItem → Clearing → Found
as_found tree k = record { activation = k.activation; welfare = k.welfare; tree = tree }

-- the block of a run's market, by what an answer of it found
pub reach_of : (books : Books) (budget run : ℕ) (made : RunMarket) (also : Option (List Cents)) (claim : Claim) (f : Found) → IsAnswer made.market budget (answered claim f)
    → (none : List TreeItem) → none ≡ [] → (b : FullBlock) → IsReportedOf books run made also (record { activation = f.activation; welfare = f.welfare; tree = none }) b
    → (gated : List ℕ) → gated ≡ gated_of books made → IsReachOf books budget run made also (record { block = b; claim = claim; tree = f.tree; gated = gated })
reach_of books budget run made also claim f is none empty b reported gated of =
    let r : ReachBlock = record { block = b; claim = claim; tree = f.tree; gated = gated } in
    let same : found_in r ≡ f = ap (as_found f.tree) reported.cleared in
    record {
      heading = reported.heading;
      names = reported.names;
      bare = ap (λ (k : Clearing). k.tree) reported.cleared ∙ empty;
      gated = of;
      answer = subst (λ (x : Found). IsAnswer made.market budget (answered claim x)) (sym same) is;
      prices = reported.prices;
      ledger = reported.ledger;
    }

-- what is known of the run's own market and prices, of those after the blocks
pub reach_after : (books : Books) (budget : ℕ) (blocks : List ReachBlock) (made : RunMarket) → made ≡ market_after books (blocks_of blocks) → (run : ℕ) → run ≡ run_after (blocks_of blocks)
    → (also : Option (List Cents)) → also ≡ also_after books (blocks_of blocks) → (r : ReachBlock) → IsReachOf books budget run made also r → IsReachBlock books budget blocks r
reach_after books budget blocks made e run is also f r h =
    let R : ℕ → Type 0 = λ n. IsReachOf books budget n made also r in
    let M : RunMarket → Type 0 = λ m. IsReachOf books budget (run_after (blocks_of blocks)) m also r in
    let A : Option (List Cents) → Type 0 = λ a. IsReachOf books budget (run_after (blocks_of blocks)) (market_after books (blocks_of blocks)) a r in
    subst A f (subst M e (subst R is h))
