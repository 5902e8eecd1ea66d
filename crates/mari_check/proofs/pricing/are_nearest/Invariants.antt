use Rattle.std.proofs.Common.{take}
use Rattle.std.specs.List.{All}
use Rattle.mari_check.specs.Lines.{IsNearestLine}
use Rattle.mari_check.proofs.pricing.are_nearest.Given as goal

abbrev pub invariant-loop-line : goal.invariant-loop-line
invariant-loop-line l = All (IsNearestLine l.reference) (take l.line-index l.lines)
