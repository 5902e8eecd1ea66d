use Rattle.std.proofs.Common.{◌∙◌, sym, take}
use Rattle.mari_check.proofs.Ending.{block-reported}
use Rattle.mari_check.proofs.day.DayCheck.all_blocks.Goals as goal

pub returns-in-Some-clause-found : goal.returns-in-Some-clause-found
returns-in-Some-clause-found c = λ p head budget same.
    let so_far = take c.loop-block.block-index c.args.blocks.now in
    block-reported c.args.books.now p head c.loop-block.self (budget ∙ sym c.loop-block.invariant.budget) c.args.blocks.now same
    c.loop-block.block-index c.block-item.result c.loop-block-test.true c.block-item.is
    c.loop-block.invariant.stands c.in_ok-verdict.field-0 (c.in_ok-verdict.ensures.states so_far c.loop-block.invariant.stands) c.in-Some.verdict c.in-Some.is
