use Rattle.std.proofs.Common.{◌-◌}
use Rattle.std.specs.List.{range_with_len}
use Rattle.mari_blocks.specs.Parts.{HoldsJointParts}
use Rattle.mari_blocks.proofs.parts.parts_of.Given as goal

-- what the quarters before this one bring
abbrev pub invariant-loop-quarter : goal.invariant-loop-quarter
invariant-loop-quarter l = HoldsJointParts l.books l.first (range_with_len l.first (l.quarter - l.first)) l.parts
