use Rattle.std.proofs.Common.{◌≡◌, ◌∙◌, ℕ, List, Option, refl, sym, ap, subst, arith}
use Rattle.mari_units.specs.declared.numbers.Cents.{Cents}
use Rattle.mari_market.specs.Clearing.{IsUnpublished}
use Rattle.mari_lines.specs.declared.line.Heading.{Heading}
use Rattle.mari_lines.specs.Ranges.{IsHeading}
use Rattle.mari_publish.specs.declared.publication.Block.{Block}
use Rattle.mari_publish.specs.declared.publication.FullBlock.{FullBlock}
use Rattle.mari_remain.specs.declared.books.Books.{Books}
use Rattle.mari_remain.specs.declared.market.RunMarket.{RunMarket}
use Rattle.mari_progress.specs.After.{also_after, market_after, run_after}
use Rattle.mari_progress.specs.Reported.{heading_of}
use Rattle.mari_progress.proofs.Progressing.{priced-after, settled-after}
use Rattle.mari_day.specs.Published.{IsPublishedOf, IsPublishedRun}
use Rattle.mari_day.proofs.Days.{heading-fits, spent-fits}
use Rattle.mari_day.proofs.run.run_done.Goals as goal

-- what is known of the run's own market and prices, of those after the blocks
module _ (books : Books) (budget : ℕ) (blocks : List Block) (made : RunMarket) (e : made ≡ market_after books blocks) where
  published-after : (run : ℕ) → run ≡ run_after blocks → (also : Option (List Cents)) → also ≡ also_after books blocks
      → (b : FullBlock) → IsPublishedOf books budget run made also b → IsPublishedRun books budget blocks b
  published-after run is also f b h =
      let R : ℕ → Type 0 = λ r. IsPublishedOf books budget r made also b in
      let M : RunMarket → Type 0 = λ m. IsPublishedOf books budget (run_after blocks) m also b in
      let A : Option (List Cents) → Type 0 = λ a. IsPublishedOf books budget (run_after blocks) (market_after books blocks) a b in
      subst A f (subst M e (subst R is h))

  unpublished-after : (count : ℕ) → IsUnpublished made.market budget count → IsUnpublished (market_after books blocks).market budget count
  unpublished-after count h = let M : RunMarket → Type 0 = λ m. IsUnpublished m.market budget count in subst M e h

pub market_of-requires-clause-after : goal.market_of-requires-clause-after
market_of-requires-clause-after g c = let s = c.requires.stands in (s.0, s.1, s.2)

pub published_run-requires-clause-also : goal.published_run-requires-clause-also
published_run-requires-clause-also g c =
    let s = c.requires.stands in
    priced-after c.args.books.now s.0 c.in_ok-made.made (c.in_ok-made.ensures.market s.0 s.1 s.2) _ c.also-also.result (c.also-also.ensures.prices s.0 s.1)

pub returns-in_ok-done-in-Published-clause-fits : goal.returns-in_ok-done-in-Published-clause-fits
returns-in_ok-done-in-Published-clause-fits g c = c.in_ok-done-in-Published.ensures.fits c.args.budget c.requires.budget.1 c.in-Published.ensures.law

pub returns-in-Spent-clause-fits : goal.returns-in-Spent-clause-fits
returns-in-Spent-clause-fits g c =
    let s = c.requires.stands in
    let P : Heading → Type 0 = λ h. IsHeading h in
    let heading = subst P (sym c.heading.ensures) (heading-fits c.args.books.now c.requires.accepted c.requires.dated c.args.run (omega (arith, s.2)) c.requires.last) in (
      heading,
      rw c.as_slice.ensures (spent-fits c.args.books.now c.requires.accepted c.requires.dated c.in_ok-made.made.market c.args.budget c.in-Spent.spent c.requires.budget.1 c.in-Spent.ensures.law),
    )

pub returns-in_ok-done-in-Published-clause-done : goal.returns-in_ok-done-in-Published-clause-done
returns-in_ok-done-in-Published-clause-done g c = λ blocks progress is.
    let books = c.args.books.now in
    let made = c.in_ok-made.ensures.market blocks progress is in
    let also = c.also-also.ensures.after blocks progress is in
    let done = c.in_ok-done-in-Published.done in
    record {
      block = published-after books c.args.budget blocks c.in_ok-made.made made c.args.run is _ also done.block (c.in_ok-done-in-Published.ensures.published c.args.budget c.in-Published.ensures.law);
      settled = settled-after books blocks c.in_ok-made.made made _ also done.block done.settled c.in_ok-done-in-Published.ensures.settled;
    }

pub returns-in-Spent-clause-done : goal.returns-in-Spent-clause-done
returns-in-Spent-clause-done g c = λ blocks progress is.
    let books = c.args.books.now in
    let made = c.in_ok-made.ensures.market blocks progress is in
    record {
      block = record {
        is_of = c.heading.ensures ∙ ap (heading_of books) is;
        spent = unpublished-after books c.args.budget blocks c.in_ok-made.made made _
            (record { spent = c.in-Spent.spent; is_spent = c.in-Spent.ensures.law; counted = rw c.as_slice.ensures refl });
      };
      settled = tt;
    }
