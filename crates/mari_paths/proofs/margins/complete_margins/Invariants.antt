use Rattle.mari_network.specs.Margins.{AreMarginsOfThese}
use Rattle.mari_paths.proofs.Bounded.{IsTaken}
use Rattle.mari_paths.proofs.margins.complete_margins.Given as goal

abbrev pub invariant-loop-place : goal.invariant-loop-place
invariant-loop-place l = AreMarginsOfThese (IsTaken l.market l.gated l.place-index) l.slots l.amounts l.market.zones l.margins
