use Rattle.std.proofs.Common.{take}
use Rattle.std.specs.List.{All}
use Rattle.mari_node.specs.Paid.{IsPaidAt}
use Rattle.mari_node.proofs.prices.none_loses.Given as goal

abbrev pub invariant-loop-place : goal.invariant-loop-place
invariant-loop-place l = All (IsPaidAt l.market l.optimum) (take l.place-index l.gated)
