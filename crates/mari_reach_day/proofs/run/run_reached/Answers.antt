use Rattle.std.proofs.Common.{◌≡◌, ◌∙◌, [], subst, sym}
use Rattle.mari_progress.proofs.Progressing.{settled-after}
use Rattle.mari_reached.specs.Answer.{IsAnswer}
use Rattle.mari_reach_day.specs.Reach.{answered, blocks_of}
use Rattle.mari_reach_text.specs.Numbers.{gated_of}
use Rattle.mari_reach_day.proofs.Blocks.{reach_after, reach_of}
use Rattle.mari_reach_day.proofs.run.run_reached.Goals as goal

pub market_of-requires-clause-after : goal.market_of-requires-clause-after
market_of-requires-clause-after c = let s = c.requires.stands in (blocks_of s.0, s.1, s.2)

pub returns-clause-done : goal.returns-clause-done
returns-clause-done c = λ blocks progress is.
    let books = c.args.books.now in
    let made = c.in_ok-made.made in
    let same = c.in_ok-made.ensures.market (blocks_of blocks) progress is in
    let also = c.also-also.ensures.after (blocks_of blocks) progress is in
    let found = c.claimed-found.result.0 in
    let claim = c.claimed-found.result.1 in
    let answer : IsAnswer made.market c.args.budget (answered claim found) = subst (IsAnswer made.market c.args.budget) (sym c.claimed-found.ensures) c.in_ok-answer.ensures in
    let gated : c.of-2.result ≡ gated_of books made = c.of-2.ensures ∙ rw c.as_slice.ensures at c.in_ok-gated.ensures in
    let done = c.in_ok-done.done in
    let none : c.of.result ≡ [] = c.of.ensures ∙ c.new.ensures.items in
    let own = reach_of books c.args.budget c.args.run made _ claim found answer c.of.result none done.block c.in_ok-done.ensures.reported c.of-2.result gated in
    record {
      block = reach_after books c.args.budget blocks made same c.args.run is _ also (record { block = done.block; claim = claim; tree = found.tree; gated = c.of-2.result }) own;
      settled = settled-after books (blocks_of blocks) made same _ also done.block done.settled c.in_ok-done.ensures.settled;
    }
