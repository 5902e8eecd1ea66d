use Rattle.std.proofs.Common.{take}
use Rattle.std.specs.List.{AllZip}
use Rattle.mari_islands.specs.Cleared.{IsClearedBy}
use Rattle.mari_islands.proofs.clear.clear_islands.Given as goal

-- the islands so far are cleared within the budget
abbrev pub invariant-loop-place : goal.invariant-loop-place
invariant-loop-place g l = record {
  cleared : AllZip (IsClearedBy l.budget) (take l.place l.islands) l.clearings.items;
  ready : g.C.Clearer.ready l.clearer;
}
