use Rattle.std.proofs.Common.{take}
use Rattle.std.specs.List.{AllZip}
use Rattle.mari_market.specs.Activation.{IsWithinLimits}
use Rattle.mari_paths.proofs.start.flows_near.Given as goal

abbrev pub invariant-loop-i : goal.invariant-loop-i
invariant-loop-i l = AllZip IsWithinLimits (take l.i l.borders) l.flows.items
