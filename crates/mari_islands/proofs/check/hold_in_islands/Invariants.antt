use Rattle.std.proofs.Common.{take}
use Rattle.std.specs.List.{AllZip}
use Rattle.mari_islands.specs.Checked.{HoldsInIsland}
use Rattle.mari_islands.specs.Lists.{lists_of}
use Rattle.mari_islands.proofs.check.hold_in_islands.Given as goal

-- the trees so far hold
abbrev pub invariant-loop-place : goal.invariant-loop-place
invariant-loop-place l = AllZip (HoldsInIsland l.activation) (take l.place l.islands) (take l.place (lists_of l.trees))
