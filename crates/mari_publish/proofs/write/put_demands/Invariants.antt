use Rattle.std.proofs.Common.{◌≡◌, ◌++◌, ◌+◌, drop}
use Rattle.mari_publish.specs.Lines.{demand_lines}
use Rattle.mari_publish.specs.Texts.{text_of_lines}
use Rattle.mari_publish.proofs.write.put_demands.Given as goal

-- with the texts of those still to come it is the whole
abbrev pub invariant-loop-i : goal.invariant-loop-i
invariant-loop-i l = l.out.items ++ text_of_lines (demand_lines (l.i + 1) (drop l.i l.demands)) ≡ l.fn.out.items ++ text_of_lines (demand_lines 1 l.demands)
