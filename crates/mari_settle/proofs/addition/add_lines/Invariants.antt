use Rattle.std.proofs.Common.{◌≡◌, take, drop}
use Rattle.mari_settle.specs.Lines.{lines_together, map_along}
use Rattle.mari_settle.proofs.addition.add_lines.Given as goal

abbrev pub invariant-loop-i : goal.invariant-loop-i
invariant-loop-i l = record {
  written : take l.i l.lines ≡ map_along lines_together (take l.i l.fn.lines) (take l.i l.others);
  rest : drop l.i l.lines ≡ drop l.i l.fn.lines;
}
