use Rattle.std.proofs.Common.{◌≡◌, ◌≤◌, ◌++◌, ◌∷◌, [], arith, rules}
use Rattle.mari_blocks.proofs.CutParts.{is-there, near, next-place, one-more, whole}
use Rattle.mari_blocks.proofs.JointPrices.{is-made}
use Rattle.mari_blocks.proofs.JointShapes.{bids-there}
use Rattle.mari_blocks.proofs.Quarters.{has-run}
use Rattle.mari_blocks.proofs.printing.quarter_blocks.Goals as goal

pub quarter_block-requires-clause-run : goal.quarter_block-requires-clause-run
quarter_block-requires-clause-run c =
    let made = is-made c.args.books.now c.requires.joint.0 c.args.first c.args.last c.args.joint.now c.requires.joint.2 in
    has-run c.args.books.now c.requires.accepted c.args.first c.args.last made.runs c.loop-quarter.quarter c.loop-quarter.auto.quarter (omega (arith, c.loop-quarter-test.true))

pub quarter_block-requires-clause-named : goal.quarter_block-requires-clause-named
quarter_block-requires-clause-named c =
    let blocks = c.requires.joint.0 in
    let made = is-made c.args.books.now blocks c.args.first c.args.last c.args.joint.now c.requires.joint.2 in
    bids-there c.args.books.now blocks c.args.first c.args.last c.args.joint.now made c.requires.accepted c.requires.joint.1

pub quarter_block-requires-clause-there : goal.quarter_block-requires-clause-there
quarter_block-requires-clause-there c =
    let blocks = c.requires.joint.0 in
    let made = is-made c.args.books.now blocks c.args.first c.args.last c.args.joint.now c.requires.joint.2 in
    is-there c.args.books.now c.requires.accepted blocks c.args.first c.args.last c.args.joint.now made c.args.activation.now c.args.priced.now c.requires.shapes
    c.loop-quarter.quarter c.loop-quarter.at c.loop-quarter.auto.quarter (omega (arith, c.loop-quarter-test.true)) (c.loop-quarter.invariant.place blocks c.requires.joint.2)

pub after-at-requires-clause-bids : goal.after-at-requires-clause-bids
after-at-requires-clause-bids c =
    let blocks = c.requires.joint.0 in
    let made = is-made c.args.books.now blocks c.args.first c.args.last c.args.joint.now c.requires.joint.2 in
    let here = near c.args.books.now c.requires.accepted blocks c.args.first c.args.last c.args.joint.now made c.args.activation.now c.args.priced.now c.requires.shapes
    c.loop-quarter.quarter c.loop-quarter.at c.in_ok-block.block c.loop-quarter.auto.quarter (omega (arith, c.loop-quarter-test.true)) (c.loop-quarter.invariant.place blocks c.requires.joint.2)
    (is-there c.args.books.now c.requires.accepted blocks c.args.first c.args.last c.args.joint.now made c.args.activation.now c.args.priced.now c.requires.shapes c.loop-quarter.quarter
    c.loop-quarter.at c.loop-quarter.auto.quarter (omega (arith, c.loop-quarter-test.true)) (c.loop-quarter.invariant.place blocks c.requires.joint.2)) c.in_ok-block.ensures c.requires.valid in
    omega (arith, here.bids)

pub after-at-requires-clause-demands : goal.after-at-requires-clause-demands
after-at-requires-clause-demands c =
    let blocks = c.requires.joint.0 in
    let made = is-made c.args.books.now blocks c.args.first c.args.last c.args.joint.now c.requires.joint.2 in
    let here = near c.args.books.now c.requires.accepted blocks c.args.first c.args.last c.args.joint.now made c.args.activation.now c.args.priced.now c.requires.shapes
    c.loop-quarter.quarter c.loop-quarter.at c.in_ok-block.block c.loop-quarter.auto.quarter (omega (arith, c.loop-quarter-test.true)) (c.loop-quarter.invariant.place blocks c.requires.joint.2)
    (is-there c.args.books.now c.requires.accepted blocks c.args.first c.args.last c.args.joint.now made c.args.activation.now c.args.priced.now c.requires.shapes c.loop-quarter.quarter
    c.loop-quarter.at c.loop-quarter.auto.quarter (omega (arith, c.loop-quarter-test.true)) (c.loop-quarter.invariant.place blocks c.requires.joint.2)) c.in_ok-block.ensures c.requires.valid in
    omega (arith, here.demands)

pub loop-quarter-preserved : goal.loop-quarter-preserved
loop-quarter-preserved c =
    let books = c.args.books.now in
    let quarter = c.loop-quarter.quarter in
    let low = c.loop-quarter.auto.quarter in
    let high : quarter ≤ c.args.last = omega (arith, c.loop-quarter-test.true) in
    record {
      place = λ blocks e.
          let made = is-made books blocks c.args.first c.args.last c.args.joint.now e in
          let is = c.loop-quarter.invariant.place blocks e in
          next-place books c.requires.accepted blocks c.args.first c.args.last c.args.joint.now made c.args.activation.now c.args.priced.now c.requires.shapes
          quarter c.loop-quarter.at c.in_ok-block.block low high is (is-there books c.requires.accepted blocks c.args.first c.args.last c.args.joint.now made c.args.activation.now c.args.priced.now
          c.requires.shapes quarter c.loop-quarter.at low high is) c.in_ok-block.ensures c.after-at.result c.after-at.ensures;
      parts =
          let blocks = c.requires.joint.0 in
          let made = is-made books blocks c.args.first c.args.last c.args.joint.now c.requires.joint.2 in
          let is = c.loop-quarter.invariant.place blocks c.requires.joint.2 in
          let put : c.push.new.self.items ≡ c.loop-quarter.quarters.items ++ c.in_ok-block.block ∷ [] = search rules in
          rw put (one-more books c.requires.accepted blocks c.args.first c.args.last c.args.joint.now made c.args.activation.now c.args.priced.now c.requires.shapes
          quarter c.loop-quarter.at c.in_ok-block.block low high is
          (is-there books c.requires.accepted blocks c.args.first c.args.last c.args.joint.now made c.args.activation.now c.args.priced.now c.requires.shapes quarter c.loop-quarter.at low high is)
          c.in_ok-block.ensures c.after-at.result c.after-at.ensures
          c.loop-quarter.quarters.items c.loop-quarter.invariant.parts);
    }

pub returns : goal.returns
returns c =
    let blocks = c.requires.joint.0 in
    let made = is-made c.args.books.now blocks c.args.first c.args.last c.args.joint.now c.requires.joint.2 in
    let end = c.loop-quarter.auto.quarter-end (omega (arith, c.requires.in_order)) in
    whole c.args.books.now c.requires.accepted blocks c.args.first c.args.last c.args.joint.now made c.args.activation.now c.args.priced.now c.requires.shapes
    c.loop-quarter.quarter c.loop-quarter.at c.loop-quarter.quarters.items (omega (arith, end, c.loop-quarter-test.false))
    (c.loop-quarter.invariant.place blocks c.requires.joint.2) c.loop-quarter.invariant.parts
