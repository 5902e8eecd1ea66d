use Rattle.std.proofs.Common.{List, sym, subst, arith}
use Rattle.mari_progress.proofs.Progressing.{settled-after}
use Rattle.mari_islands.specs.declared.islands.Island.{Island}
use Rattle.mari_split.specs.Split.{IsSplitRun, blocks_of}
use Rattle.mari_split.specs.Steps.{RunFits}
use Rattle.mari_split.proofs.Blocks.{few_islands, run_fits, spent_below, split, split_after, unpublished_split, unsplit_after}
use Rattle.mari_split.proofs.run.run_split.Goals as goal

pub market_of-requires-clause-after : goal.market_of-requires-clause-after
market_of-requires-clause-after g c = let s = c.requires.stands in (blocks_of s.0, s.1, s.2)

pub overflow_add-result : goal.overflow_add-result
overflow_add-result g c =
    let islands = c.in_ok-islands.islands.items in
    let law = rw c.deref.ensures.value at c.in-Spent.ensures.law in
    omega
    (arith, spent_below islands c.args.budget c.in-Spent.island c.in-Spent.spent law, few_islands c.in_ok-made.made.market islands c.in_ok-made.ensures.of_books.valid c.in_ok-islands.ensures.islands)

pub returns-in_ok-done-in-Published-clause-fits : goal.returns-in_ok-done-in-Published-clause-fits
returns-in_ok-done-in-Published-clause-fits g c =
    let islands = c.in_ok-islands.islands.items in
    let law = rw c.deref.ensures.value at c.in-Published.ensures.law in
    let done = c.in_ok-done-in-Published.done in
    subst (λ (xs : List Island). RunFits (record { block = done.block; islands = xs; clearings = c.in-Published.clearings })) (sym c.of-in-Published.ensures)
    (run_fits c.in_ok-made.made.market c.in_ok-made.ensures.of_books.valid c.args.budget islands c.in_ok-islands.ensures.islands c.in-Published.joined c.in-Published.clearings law done.block
    c.requires.budget.1 c.in_ok-done-in-Published.ensures.market_fits)

pub returns-in_ok-done-in-Published-clause-done : goal.returns-in_ok-done-in-Published-clause-done
returns-in_ok-done-in-Published-clause-done g c = λ blocks progress is.
    let books = c.args.books.now in
    let made = c.in_ok-made.made in
    let same = c.in_ok-made.ensures.market (blocks_of blocks) progress is in
    let also = c.also-also.ensures.after (blocks_of blocks) progress is in
    let islands = c.in_ok-islands.islands.items in
    let clearings = c.in-Published.clearings in
    let law = rw c.deref.ensures.value at c.in-Published.ensures.law in
    let done = c.in_ok-done-in-Published.done in
    let own = split books c.args.budget c.args.run made _ islands c.in_ok-islands.ensures.islands c.in-Published.joined clearings law c.in-Published.ensures.first c.of.result done.block
    c.in_ok-done-in-Published.ensures.reported in
    record {
      block = subst (λ (xs : List Island). IsSplitRun books c.args.budget blocks (record { block = done.block; islands = xs; clearings = clearings })) (sym c.of-in-Published.ensures)
          (split_after books c.args.budget blocks made same c.args.run is _ also (record { block = done.block; islands = islands; clearings = clearings }) own);
      settled = settled-after books (blocks_of blocks) made same _ also done.block done.settled c.in_ok-done-in-Published.ensures.settled;
    }

pub returns-in-Spent-clause-done : goal.returns-in-Spent-clause-done
returns-in-Spent-clause-done g c = λ blocks progress is.
    let books = c.args.books.now in
    let made = c.in_ok-made.made in
    let same = c.in_ok-made.ensures.market (blocks_of blocks) progress is in
    let islands = c.in_ok-islands.islands.items in
    let law = rw c.deref.ensures.value at c.in-Spent.ensures.law in
    let own = unpublished_split books c.args.budget c.args.run made islands c.in-Spent.island c.in-Spent.spent c.in_ok-islands.ensures.islands law in
    record {
      block = rw (c.heading.ensures, c.as_slice.ensures) (unsplit_after books c.args.budget blocks made same c.args.run is _ _ _ own);
      settled = tt;
    }
