use Rattle.std.proofs.Common.{take}
use Rattle.std.specs.List.{AllZip}
use Rattle.mari_check.specs.Lines.{NamesEnds}
use Rattle.mari_check.proofs.names.borders_named.Given as goal

abbrev pub invariant-loop-border : goal.invariant-loop-border
invariant-loop-border l = AllZip (NamesEnds l.names) (take l.border l.lines) (take l.border l.borders)
