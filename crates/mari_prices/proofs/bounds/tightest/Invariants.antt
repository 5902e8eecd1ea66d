use Rattle.std.proofs.Common.{take}
use Rattle.mari_prices.specs.declared.bounds.End.TheVariants.{Least, Greatest}
use Rattle.mari_prices.specs.Tightest.{AreTightest}
use Rattle.mari_prices.proofs.bounds.tightest.Given as goal

abbrev pub invariant-loop-i : goal.invariant-loop-i
invariant-loop-i l = record {
  least : AreTightest Least (take l.i l.orders) (take l.i l.mw) l.zones l.bounds.least.items;
  greatest : AreTightest Greatest (take l.i l.orders) (take l.i l.mw) l.zones l.bounds.greatest.items;
}
