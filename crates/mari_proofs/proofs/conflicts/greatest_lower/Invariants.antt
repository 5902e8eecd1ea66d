use Rattle.std.proofs.Common.{take}
use Rattle.mari_proofs.specs.Conflicts.{opens_gate, IsGreatestLower}
use Rattle.mari_proofs.proofs.conflicts.greatest_lower.Given as goal

abbrev pub invariant-loop-i : goal.invariant-loop-i
invariant-loop-i l = IsGreatestLower (opens_gate l.prefix) l.zone (take l.i l.orders) (take l.i l.mw) l.bound
