use Rattle.std.proofs.Common.{arith, refl}
use Rattle.mari_blocks.proofs.JointBlocks.{joint-block}
use Rattle.mari_blocks.proofs.JointPrices.{is-made}
use Rattle.mari_blocks.proofs.JointShapes.{shapes}
use Rattle.mari_blocks.proofs.printing.joint_block.Goals as goal

pub priced_of-requires-clause-joint : goal.priced_of-requires-clause-joint
priced_of-requires-clause-joint c = (c.requires.joint.0, c.args.last, c.requires.last, c.requires.joint.2)

pub quarter_blocks-requires-clause-shapes : goal.quarter_blocks-requires-clause-shapes
quarter_blocks-requires-clause-shapes c =
    let made = is-made c.args.books.now c.requires.joint.0 c.args.first c.args.last c.args.joint.now c.requires.joint.2 in
    shapes c.args.books.now c.requires.joint.0 c.args.first c.args.last c.args.joint.now made c.args.clearing.activation c.in-Ok.priced
    c.in-Ok.ensures c.requires.optimal.admissible.feasible

pub returns-clause-block : goal.returns-clause-block
returns-clause-block c = λ budget clears.
    joint-block c.args.books.now c.args.first c.args.last c.args.joint.now c.args.clearing c.in-Ok.priced _ c.in-Ok.ensures
    (rw c.of.ensures c.in-Ok-quarter_blocks.ensures) budget clears refl refl refl refl

pub returns-clause-fits : goal.returns-clause-fits
returns-clause-fits c = λ budget small clears. record {
  quarters = rw c.of.ensures c.in-Ok-quarter_blocks.ensures.fit;
  tree = omega (arith, small, clears.within_budget);
}
