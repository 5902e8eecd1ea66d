use Rattle.std.proofs.Common.{take}
use Rattle.mari_prices.specs.declared.bounds.End.TheVariants.{Least, Greatest}
use Rattle.mari_node.proofs.Plain.{AreBoundsOver}
use Rattle.mari_node.proofs.bounds.bounds_from.Given as goal

abbrev pub invariant-loop-place : goal.invariant-loop-place
invariant-loop-place l = record {
  least : AreBoundsOver Least l.market l.optimum (take l.place-index l.gated) l.bounds.least.items;
  greatest : AreBoundsOver Greatest l.market l.optimum (take l.place-index l.gated) l.bounds.greatest.items;
}
