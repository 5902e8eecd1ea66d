use Rattle.mari_blocks.specs.Printed.IsTextOf.{Published}
use Rattle.mari_blocks.proofs.clearing.published_text.Goals as goal

pub joint_text-requires : goal.joint_text-requires
joint_text-requires c = c.in_ok-block.ensures.fits c.requires.clearing.0 c.requires.clearing.1.1 c.requires.clearing.2

pub returns : goal.returns
returns c = λ budget clears. rw (c.of.ensures, c.in_ok-text.ensures) (Published c.in_ok-block.block (c.in_ok-block.ensures.block budget clears))
