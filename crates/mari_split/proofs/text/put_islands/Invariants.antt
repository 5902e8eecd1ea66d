use Rattle.std.proofs.Common.{◌≡◌, ◌+◌, ◌++◌, drop}
use Rattle.mari_split.specs.Lines.{islands_text}
use Rattle.mari_split.proofs.text.put_islands.Given as goal

-- with those still to come it is the whole
abbrev pub invariant-loop-place : goal.invariant-loop-place
invariant-loop-place l = l.out.items ++ islands_text l.names (l.place + 1) (drop l.place l.islands) (drop l.place l.clearings) ≡ l.fn.out.items ++ islands_text l.names 1 l.islands l.clearings
