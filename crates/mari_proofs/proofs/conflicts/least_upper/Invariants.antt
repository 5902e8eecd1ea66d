use Rattle.std.proofs.Common.{take}
use Rattle.mari_proofs.specs.Conflicts.{opens_gate, IsLeastUpper}
use Rattle.mari_proofs.proofs.conflicts.least_upper.Given as goal

abbrev pub invariant-loop-i : goal.invariant-loop-i
invariant-loop-i l = IsLeastUpper (opens_gate l.prefix) l.zone (take l.i l.orders) (take l.i l.mw) l.bound
