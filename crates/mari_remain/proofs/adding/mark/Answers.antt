use Rattle.std.proofs.Common.{◌∙◌, arith}
use Rattle.mari_remain.proofs.Beside.{mark-no, mark-yes}
use Rattle.mari_remain.proofs.adding.mark.Goals as goal
use Rattle.mari_remain.proofs.adding.mark.Goals.{then-more-place-gt0, else-more-place-gt0}

pub loop-place-preserved : goal.loop-place-preserved
loop-place-preserved c = λ i. elim c.if-more-place-gt0.branch [
  | then-more-place-gt0 w ↦ rw w.marks-is
      (mark-yes c.loop-place.marks c.args.bids.now c.args.more.now c.loop-place.place i c.loop-place-test.true (omega (arith, c.loop-place-test.true, c.requires.long))
      (let there = c.requires.there c.loop-place.place 0 c.loop-place-test.true in omega (arith, there, c.loop-place.auto.marks)) w.if-more-place-gt0.true ∙ c.loop-place.invariant i)
  | else-more-place-gt0 w ↦ rw w.marks-is
      (mark-no c.loop-place.marks c.args.bids.now c.args.more.now c.loop-place.place i c.loop-place-test.true (omega (arith, c.loop-place-test.true, c.requires.long))
      (omega (arith, w.if-more-place-gt0.false)) ∙ c.loop-place.invariant i)
]
