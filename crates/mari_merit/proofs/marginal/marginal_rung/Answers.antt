use Rattle.std.proofs.Common.{pos, arith}
use Rattle.mari_merit.specs.declared.marginal.Rung.{Rung}
use Rattle.mari_merit.proofs.Rungs.{at_rung, not_beyond, as_read}
use Rattle.mari_merit.proofs.marginal.marginal_rung.Goals as goal

pub returns-then-met-need : goal.returns-then-met-need
returns-then-met-need c =
    let d : Rung = record { price = pos 0; room = 0 } in
    let price = c.requires.prices c.loop-rung.rung-index d c.loop-rung-test.true in
    as_read c.args.rungs.now c.args.need _ price
    (at_rung c.args.rungs.now c.loop-rung.rung-index c.args.need c.loop-rung.met d c.requires.ascending c.loop-rung-test.true price c.loop-rung.invariant.met
    (not_beyond c.args.rungs.now c.loop-rung.rung-index c.args.need c.loop-rung.met c.loop-rung.invariant.met c.loop-rung.invariant.less) (omega arith))
