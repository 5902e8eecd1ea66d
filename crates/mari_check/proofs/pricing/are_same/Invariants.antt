use Rattle.std.proofs.Common.{take}
use Rattle.std.specs.List.{AllZip}
use Rattle.mari_check.specs.Lines.{IsSamePrice}
use Rattle.mari_check.proofs.pricing.are_same.Given as goal

abbrev pub invariant-loop-zone : goal.invariant-loop-zone
invariant-loop-zone l = AllZip IsSamePrice (take l.zone l.prices) (take l.zone l.others)
