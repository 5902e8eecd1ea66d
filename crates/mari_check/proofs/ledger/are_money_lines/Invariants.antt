use Rattle.std.proofs.Common.{take}
use Rattle.std.specs.List.{AllZip}
use Rattle.mari_check.specs.Lines.{IsSameMoneyLine}
use Rattle.mari_progress.specs.Money.{money_lines_of}
use Rattle.mari_check.proofs.ledger.are_money_lines.Given as goal

abbrev pub invariant-loop-operator : goal.invariant-loop-operator
invariant-loop-operator l = AllZip IsSameMoneyLine (take l.operator l.lines) (take l.operator (money_lines_of l.names l.own))
