use Rattle.std.proofs.Common.{map, take}
use Rattle.std.specs.List.{AllZip}
use Rattle.mari_check.specs.Lines.{IsSameAmountLine}
use Rattle.mari_progress.specs.Money.{amount_line}
use Rattle.mari_check.proofs.ledger.are_amount_lines.Given as goal

abbrev pub invariant-loop-order : goal.invariant-loop-order
invariant-loop-order l = AllZip IsSameAmountLine (take l.order l.lines) (take l.order (map (amount_line l.names l.amounts) l.places))
