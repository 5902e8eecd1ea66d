use Rattle.std.proofs.Common.{◌≡◌, ◌++◌, drop, map}
use Rattle.mari_publish.specs.Texts.{text_of_lines}
use Rattle.mari_lines.specs.declared.line.Line.TheVariants as line
use Rattle.mari_publish.proofs.write.put_total_operators.Given as goal

-- with the texts of those still to come it is the whole
abbrev pub invariant-loop-operator : goal.invariant-loop-operator
invariant-loop-operator l = l.out.items ++ text_of_lines (map line.TotalOperator (drop l.operator-index l.operators)) ≡ l.fn.out.items ++ text_of_lines (map line.TotalOperator l.operators)
