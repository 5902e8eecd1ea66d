use Rattle.std.proofs.Common.{◌≡◌, ◌++◌, drop}
use Rattle.mari_capacity.specs.Lines.{border_lines}
use Rattle.mari_capacity.proofs.lines.put_borders.Given as goal

-- with the lines of the borders still to come it is the whole
abbrev pub invariant-loop-border : goal.invariant-loop-border
invariant-loop-border l = l.text.items ++ border_lines (drop l.border l.lines) (drop l.border l.worths) ≡ l.fn.text.items ++ border_lines l.lines l.worths
