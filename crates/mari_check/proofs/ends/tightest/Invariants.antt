use Rattle.std.proofs.Common.{take}
use Rattle.mari_check.specs.Ends.{AreTightest}
use Rattle.mari_check.specs.declared.ends.End.TheVariants.{Greatest, Least}
use Rattle.mari_check.proofs.ends.tightest.Given as goal

-- each zone's bounds are the tightest of the orders so far
abbrev pub invariant-loop-i : goal.invariant-loop-i
invariant-loop-i l = record {
  least : AreTightest Least (take l.i l.orders) (take l.i l.mw) l.zones l.heights.least.items;
  greatest : AreTightest Greatest (take l.i l.orders) (take l.i l.mw) l.zones l.heights.greatest.items;
}
