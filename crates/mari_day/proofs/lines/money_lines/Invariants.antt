use Rattle.std.proofs.Common.{◌≡◌, ◌++◌, drop}
use Rattle.mari_progress.specs.Money.{money_lines_of}
use Rattle.mari_day.proofs.lines.money_lines.Given as goal

-- with the lines of those still to come it is the whole
abbrev pub invariant-loop-operator : goal.invariant-loop-operator
invariant-loop-operator l = l.money.items ++ money_lines_of (drop l.operator l.operators) (drop l.operator l.lines) ≡ money_lines_of l.operators l.lines
