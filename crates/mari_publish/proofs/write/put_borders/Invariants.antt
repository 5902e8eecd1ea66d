use Rattle.std.proofs.Common.{◌≡◌, ◌++◌, drop, map}
use Rattle.mari_publish.specs.Texts.{text_of_lines}
use Rattle.mari_lines.specs.declared.line.Line.TheVariants as line
use Rattle.mari_publish.proofs.write.put_borders.Given as goal

-- with the texts of those still to come it is the whole
abbrev pub invariant-loop-border : goal.invariant-loop-border
invariant-loop-border l = l.out.items ++ text_of_lines (map line.Border (drop l.border-index l.borders)) ≡ l.fn.out.items ++ text_of_lines (map line.Border l.borders)
