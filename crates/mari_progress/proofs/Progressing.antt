-- What is kept of a day stands for one block more after each run.
use Rattle.std.proofs.Common.{◌≡◌, ◌∙◌, ℕ, ◌+◌, ◌<◌, ◌≤◌, Bool, true, false, if◌then◌else◌, List, [], ◌∷◌, ◌++◌, length, Option, Some, refl, sym, ap, subst, arith}
use Rattle.std.specs.Prelude.{IfSome}
use Rattle.std.proofs.lemmas.List.{length-append, length-map, map-append}
use Rattle.mari_units.specs.declared.numbers.Cents.{Cents}
use Rattle.mari_demands.specs.declared.runs.Run.{Run}
use Rattle.mari_market.specs.declared.activation.Activation.{Activation}
use Rattle.mari_market.specs.Optimal.{IsFeasible}
use Rattle.mari_market.specs.Price.{ArePrices}
use Rattle.mari_lines.specs.declared.line.Heading.{Heading}
use Rattle.mari_publish.specs.declared.publication.Block.{Block}
use Rattle.mari_publish.specs.declared.publication.Block.TheVariants as block
use Rattle.mari_publish.specs.declared.publication.FullBlock.{FullBlock}
use Rattle.mari_remain.specs.declared.books.Books.{Books}
use Rattle.mari_remain.specs.declared.market.RunMarket.{RunMarket}
use Rattle.mari_remain.specs.Accepted.{IsAccepted}
use Rattle.mari_remain.specs.Blocks.{PastBlock}
use Rattle.mari_remain.specs.FirstBlocks.{StandsFor, block_of}
use Rattle.mari_remain.specs.Lists.{run_numbered}
use Rattle.mari_remain.specs.RunMarket.{run_market_of}
use Rattle.mari_remain.proofs.After.{nothing-more}
use Rattle.mari_settle.specs.Conditions.{LedgersAddUp}
use Rattle.mari_settle.specs.Lines.{lines_together, map_along, together}
use Rattle.mari_progress.specs.declared.progress.Progress.{Progress}
use Rattle.mari_progress.specs.declared.progress.Scheduled.{Scheduled}
use Rattle.mari_progress.specs.declared.progress.SettledRun.{SettledRun}
use Rattle.mari_progress.specs.After.{also_after, before_of, market_after, past_of, run_after}
use Rattle.mari_progress.specs.Progress.{IsProgress, KeepsPrices}
use Rattle.mari_progress.specs.Runs.{IsMarketOf, IsNextRun, IsRunOf}
use Rattle.mari_progress.specs.Reported.{activation_of, heading_of}
use Rattle.mari_progress.proofs.Counts.{published-more, published-same}
use Rattle.mari_publish.proofs.Counts.{both_kinds}
use Rattle.mari_progress.proofs.Made.{market-of}
use Rattle.mari_progress.proofs.Past.{next-block, past-published}
use Rattle.mari_progress.proofs.Scheduling.{keeps-direct, keeps-scheduled, keeps-unpublished}
use Rattle.mari_progress.proofs.Sums.{adds-up, totals-more, totals-same}

-- what is known of a market and of prices that are those after the blocks
module _ (books : Books) (blocks : List Block) (made : RunMarket) (e : made ≡ market_after books blocks) where
  pub priced-after : {A : Type 0} (f : A → List Cents) (r : Option A) → IfSome r (λ a. ArePrices (market_after books blocks).market (f a)) → IfSome r (λ a. ArePrices made.market (f a))
  priced-after f r h = let P : RunMarket → Type 0 = λ m. IfSome r (λ a. ArePrices m.market (f a)) in subst P (sym e) h

  pub settled-after : (also : Option (List Cents)) → also ≡ also_after books blocks
      → (b : FullBlock) (settled : SettledRun) → IsRunOf books made also b settled
      → IsRunOf books (market_after books blocks) (also_after books blocks) b settled
  settled-after also f b settled h =
      let M : RunMarket → Type 0 = λ m. IsRunOf books m also b settled in
      let A : Option (List Cents) → Type 0 = λ a. IsRunOf books (market_after books blocks) a b settled in
      subst A f (subst M e h)

module _ (books : Books) (ok : IsAccepted books) (blocks : List Block) (kept : Progress) (progress : IsProgress books blocks kept) where
  -- the run after the blocks, and its market
  module _ (run : ℕ) (is : run ≡ run_after blocks) where
    pub next : run ≡ length (before_of books blocks) + 1
    next = is ∙ ap (λ n. n + 1) (sym (length-map blocks (past_of books)))

    pub made-after : (made : RunMarket) → made ≡ run_market_of books (before_of books blocks) run → made ≡ market_after books blocks
    made-after made e = e ∙ ap (run_market_of books (before_of books blocks)) is

  module _ (last : run_after blocks ≤ length books.runs.runs) where
    pub of-books : IsMarketOf books (market_after books blocks)
    of-books = market-of books ok (before_of books blocks) progress.stands.first (run_after blocks) (omega arith) last

    -- a block that isn't published changes nothing
    pub unpublished-too : (heading : Heading) (count : ℕ) → heading ≡ heading_of books (run_after blocks) → IsProgress books (blocks ++ block.Unpublished heading count ∷ []) kept
    unpublished-too heading count is =
        let b : Block = block.Unpublished heading count in
        let own = next-block books ok blocks progress.stands.first last b is in
        record {
          few = omega (arith, last, length-append blocks (b ∷ []));
          stands =
              let P : List PastBlock → Type 0 = λ past. StandsFor books past kept.remaining in
              subst P (sym (map-append (past_of books) blocks (b ∷ []))) (nothing-more books ok (before_of books blocks) (past_of books b) own kept.remaining kept.remaining progress.stands refl);
          totals = totals-same books blocks kept.totals progress.totals heading count;
          scheduled = keeps-unpublished books ok blocks kept.scheduled progress.scheduled heading count;
          published = progress.published ∙ sym (published-same blocks heading count);
        }

    module _ (b : FullBlock) (settled : SettledRun) (is : IsNextRun books blocks b settled) where
      -- what is asked where it is added
      pub record CanAdd : Type 0 where
        pub feasible : IsFeasible settled.made.market settled.activation
        pub ledgers : LedgersAddUp kept.totals settled.ledger
        pub few : kept.published < 1000

      pub can-add : CanAdd
      can-add = record {
        feasible =
            let M : RunMarket → Type 0 = λ m. IsFeasible m.market (activation_of b) in
            let A : Activation → Type 0 = λ a. IsFeasible settled.made.market a in
            subst A (sym is.adds.activation) (subst M (sym is.adds.market) is.sound.feasible);
        ledgers = adds-up books blocks kept.totals progress.totals b settled is.adds (omega (arith, last, ok.runs.few));
        few = omega (arith, progress.published, both_kinds blocks, last, ok.runs.few);
      }

      pub same-market : (run : ℕ) → run ≡ run_after blocks → settled.made ≡ run_market_of books (before_of books blocks) run
      same-market run e = is.adds.market ∙ ap (run_market_of books (before_of books blocks)) (sym e)

      -- what is kept of the prices, after a run with this entry
      abbrev kept-after : Run → Option Scheduled
      kept-after entry = if entry.direct then kept.scheduled else Some (record { quarter = entry.quarter; prices = settled.prices })

      keeps : (new : Option Scheduled) (direct : Bool) → (run_numbered books (run_after blocks)).direct ≡ direct
          → new
          ≡ (if direct then kept.scheduled else Some (record { quarter = (run_numbered books (run_after blocks)).quarter; prices = settled.prices }))
          → KeepsPrices books (blocks ++ block.Published b ∷ []) new
      keeps new true e f = subst (KeepsPrices books (blocks ++ block.Published b ∷ [])) (sym f) (keeps-direct books ok blocks kept.scheduled progress.scheduled b last is.sound.heading e)
      keeps new false e f =
          let own : Scheduled = record { quarter = (run_numbered books (run_after blocks)).quarter; prices = settled.prices } in
          let consistent = is.sound.consistent in
          subst (KeepsPrices books (blocks ++ block.Published b ∷ [])) (sym f)
          (keeps-scheduled books ok blocks kept.scheduled progress.scheduled b last is.sound.heading e own refl is.adds.prices consistent.prices.one_each consistent.prices.capped)

      -- the block of a run, which is added to all that is kept
      pub published-added : (run : ℕ) → run ≡ run_after blocks → (after : Progress)
          → StandsFor books (before_of books blocks ++ block_of books run settled.made.bids settled.activation ∷ []) after.remaining
          → after.totals.operators ≡ map_along lines_together kept.totals.operators settled.ledger.operators → after.totals.providers ≡ map_along
          together kept.totals.providers settled.ledger.providers
          → after.totals.rents ≡ map_along together kept.totals.rents settled.ledger.rents → after.scheduled ≡ kept-after (run_numbered books run) → after.published ≡ kept.published + 1
          → IsProgress books (blocks ++ block.Published b ∷ []) after
      published-added run own after stands operators providers rents scheduled count =
          let p : Block = block.Published b in
          let past : past_of books p ≡ block_of books run settled.made.bids settled.activation =
          past-published books ok blocks progress.stands.first last b is.sound
          ∙ sym (ap (λ (m : RunMarket). block_of books (run_after blocks) m.bids (activation_of b)) is.adds.market)
          ∙ sym (ap (λ (a : Activation). block_of books (run_after blocks) settled.made.bids a) is.adds.activation)
          ∙ sym (ap (λ r. block_of books r settled.made.bids settled.activation) own) in
          record {
            few = omega (arith, last, length-append blocks (p ∷ []));
            stands =
                let P : List PastBlock → Type 0 = λ past. StandsFor books past after.remaining in
                subst P (sym (map-append (past_of books) blocks (p ∷ []) ∙ ap (λ x. before_of books blocks ++ x ∷ []) past)) stands;
            totals = totals-more books blocks kept.totals progress.totals b settled is.adds after.totals operators providers rents;
            scheduled = keeps after.scheduled (run_numbered books (run_after blocks)).direct refl (scheduled ∙ ap (λ r. kept-after (run_numbered books r)) own);
            published = count ∙ ap (λ n. n + 1) progress.published ∙ sym (published-more blocks b);
          }
