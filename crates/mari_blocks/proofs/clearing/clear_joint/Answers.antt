use Rattle.std.proofs.Common.{ap, length}
use Rattle.mari_blocks.specs.Printed.IsTextOf.{Unpublished}
use Rattle.mari_blocks.proofs.clearing.clear_joint.Goals as goal

pub returns-in_ok-text-in-Spent-clause-text : goal.returns-in_ok-text-in-Spent-clause-text
returns-in_ok-text-in-Spent-clause-text g c = record {
  joint = c.in_ok-joint.joint;
  made = c.in_ok-joint.ensures.joint;
  is_text = rw (c.of.ensures, c.in_ok-text-in-Spent.ensures) (Unpublished _ (record { spent = c.in-Spent.spent; is_spent = c.in-Spent.ensures.law; counted = ap length c.as_slice.ensures }));
}
