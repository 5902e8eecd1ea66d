use Rattle.std.proofs.Common.{take}
use Rattle.std.specs.List.{AllZip}
use Rattle.mari_check.specs.Lines.{StatesRent}
use Rattle.mari_check.proofs.ledger.are_rents.Given as goal

abbrev pub invariant-loop-border : goal.invariant-loop-border
invariant-loop-border l = AllZip StatesRent (take l.border l.lines) (take l.border l.rents)
