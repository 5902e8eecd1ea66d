use Rattle.mari_check.specs.declared.block.Examined.TheVariants as examined
use Rattle.mari_progress.proofs.Progressing.{priced-after, settled-after}
use Rattle.mari_reach_check.specs.Day.{all_printed}
use Rattle.mari_reach_check.proofs.Days.{all-after, least-after}
use Rattle.mari_reach_check.proofs.Examining.{examined-as}
use Rattle.mari_reach_check.proofs.day.ReachDayCheck.test.Goals as goal

pub market_of-requires-clause-after : goal.market_of-requires-clause-after
market_of-requires-clause-after c = let s = c.requires.stands in (all_printed s.0, s.1.progress, s.2)

pub examine_block-requires-clause-also : goal.examine_block-requires-clause-also
examine_block-requires-clause-also c =
    let s = c.requires.stands in
    priced-after c.args.books.now (all_printed s.0) c.in_ok-made.made (c.in_ok-made.ensures.market (all_printed s.0) s.1.progress s.2) _ c.also-also.result
    (c.also-also.ensures.prices (all_printed s.0) s.1.progress)

pub returns-in-Faulty : goal.returns-in-Faulty
returns-in-Faulty c = λ blocks checked is.
    let books = c.args.books.now in
    let made = c.in_ok-made.ensures.market (all_printed blocks) checked.progress is in
    let also = c.also-also.ensures.after (all_printed blocks) checked.progress is in
    least-after books c.args.self.now.budget blocks c.args.run is c.requires.last c.in_ok-made.made made _ also c.args.block c.in-Faulty.fault
    (examined-as books c.args.run c.in_ok-made.made _ c.args.self.now.budget c.args.block c.in_ok-fault.field-0 (examined.Faulty c.in-Faulty.fault) c.in-Faulty.is c.in_ok-fault.ensures)

pub returns-in-Sound : goal.returns-in-Sound
returns-in-Sound c = λ blocks checked is.
    let books = c.args.books.now in
    let made = c.in_ok-made.ensures.market (all_printed blocks) checked.progress is in
    let also = c.also-also.ensures.after (all_printed blocks) checked.progress is in
    let found = examined-as books c.args.run c.in_ok-made.made _ c.args.self.now.budget c.args.block c.in_ok-fault.field-0
    (examined.Sound c.in-Sound.activation c.in-Sound.prices c.in-Sound.ledger) c.in-Sound.is c.in_ok-fault.ensures in (
      all-after books c.args.self.now.budget blocks c.args.run is c.requires.last c.in_ok-made.made made _ also c.args.block found.0,
      settled-after books (all_printed blocks) c.in_ok-made.made made _ also c.args.block.block _ found.1,
    )
