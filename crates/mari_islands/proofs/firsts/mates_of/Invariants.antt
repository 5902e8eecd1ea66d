use Rattle.std.specs.BTreeMap.{get}
use Rattle.std.specs.Ordering.{nat_cmp}
use Rattle.mari_islands.proofs.Homes.{AreMatesOf}
use Rattle.mari_islands.proofs.firsts.mates_of.Given as goal

-- those of the gates so far
abbrev pub invariant-loop-gate : goal.invariant-loop-gate
invariant-loop-gate l = AreMatesOf l.market l.gate (get nat_cmp l.groups) l.mates.items
