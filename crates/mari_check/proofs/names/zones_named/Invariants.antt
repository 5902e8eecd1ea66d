use Rattle.std.proofs.Common.{take}
use Rattle.std.specs.List.{AllZip}
use Rattle.mari_check.specs.Lines.{NamesZone}
use Rattle.mari_check.proofs.names.zones_named.Given as goal

abbrev pub invariant-loop-zone : goal.invariant-loop-zone
invariant-loop-zone l = AllZip NamesZone (take l.zone l.lines) (take l.zone l.names)
