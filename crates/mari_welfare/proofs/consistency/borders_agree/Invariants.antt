use Rattle.std.proofs.Common.{take}
use Rattle.std.specs.List.{AllZip}
use Rattle.mari_market.specs.Consistent.{IsConsistentBorder}
use Rattle.mari_welfare.proofs.consistency.borders_agree.Given as goal

abbrev pub invariant-loop-i : goal.invariant-loop-i
invariant-loop-i l = AllZip (IsConsistentBorder l.prices) (take l.i l.borders) (take l.i l.flow)
