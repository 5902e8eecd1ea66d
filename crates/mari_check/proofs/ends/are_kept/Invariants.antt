use Rattle.std.proofs.Common.{take}
use Rattle.std.specs.List.{AllZip}
use Rattle.mari_check.specs.Ends.{IsKept}
use Rattle.mari_check.proofs.ends.are_kept.Given as goal

abbrev pub invariant-loop-zone : goal.invariant-loop-zone
invariant-loop-zone l = AllZip (IsKept l.end) (take l.zone l.prices) (take l.zone l.bounds)
