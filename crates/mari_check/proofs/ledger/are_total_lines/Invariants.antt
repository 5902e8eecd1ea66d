use Rattle.std.proofs.Common.{map, take, length}
use Rattle.std.specs.List.{AllZip, range_with_len}
use Rattle.mari_check.specs.Lines.{IsSameAmountLine}
use Rattle.mari_progress.specs.Money.{amount_line}
use Rattle.mari_check.proofs.ledger.are_total_lines.Given as goal

abbrev pub invariant-loop-provider : goal.invariant-loop-provider
invariant-loop-provider l = AllZip IsSameAmountLine (take l.provider l.lines) (take l.provider (map (amount_line l.names l.amounts) (range_with_len 0 (length l.names))))
