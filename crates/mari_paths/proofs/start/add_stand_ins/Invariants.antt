use Rattle.std.proofs.Common.{◌≡◌, ◌++◌, take}
use Rattle.mari_paths.specs.Starts.{stand_ins}
use Rattle.mari_paths.proofs.start.add_stand_ins.Given as goal

abbrev pub invariant-loop-zone : goal.invariant-loop-zone
invariant-loop-zone l = record {
  slots : l.slots.items ≡ l.fn.slots.items ++ stand_ins 0 (take l.zone l.short);
  amounts : l.amounts.items ≡ l.fn.amounts.items ++ take l.zone l.short;
}
