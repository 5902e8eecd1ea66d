use Rattle.std.proofs.Common.{◌≡◌, Ok}
use Rattle.mari_blocks.specs.Cutting.{AreCutOut, IsPlaceOf}
use Rattle.mari_blocks.specs.Joint.{joint_in}
use Rattle.mari_blocks.specs.declared.blocks.BlockBook.{BlockBook}
use Rattle.mari_blocks.proofs.JointShapes.{kept}
use Rattle.mari_blocks.proofs.printing.quarter_blocks.Given as goal

-- the parts of the quarters before this one, and where they end
abbrev pub invariant-loop-quarter : goal.invariant-loop-quarter
invariant-loop-quarter l = record {
  place : (blocks : BlockBook) → joint_in l.books blocks l.first l.last ≡ Ok l.joint → IsPlaceOf l.books l.joint l.activation l.priced l.first (kept l.books blocks l.first l.last) l.quarter l.at;
  parts : AreCutOut l.books l.joint l.activation l.priced l.first l.quarter l.quarters.items l.at;
}
