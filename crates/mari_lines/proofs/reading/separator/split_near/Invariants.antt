use Rattle.std.proofs.Common.{take}
use Rattle.mari_lines.specs.Reading.{Lacks}
use Rattle.mari_lines.proofs.reading.separator.split_near.Given as goal

-- no byte so far is the separator
abbrev pub invariant-loop-i : goal.invariant-loop-i
invariant-loop-i l = Lacks l.separator (take l.i l.bytes)
