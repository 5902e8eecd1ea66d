use Rattle.std.proofs.Common.{take}
use Rattle.mari_islands.specs.Placing.{ArePlaced}
use Rattle.mari_islands.proofs.join.place_all.Given as goal

-- the islands so far are placed
abbrev pub invariant-loop-place : goal.invariant-loop-place
invariant-loop-place l = ArePlaced (take l.place l.islands) (take l.place l.clearings) l.mw l.flow
