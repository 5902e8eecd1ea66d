use Rattle.std.proofs.Common.{◌≡◌, take, map}
use Rattle.std.specs.List.{All, range_with_len}
use Rattle.mari_settle.specs.Conditions.{IsSmallLine}
use Rattle.mari_settle.specs.Ledger.{operator_line}
use Rattle.mari_settle.proofs.operators.write_lines.Given as goal

abbrev pub invariant-loop-operator : goal.invariant-loop-operator
invariant-loop-operator l = record {
  written : take l.operator l.lines ≡ map (operator_line l.zones l.market l.activation l.prices) (range_with_len 0 l.operator);
  small : All IsSmallLine (take l.operator l.lines);
}
