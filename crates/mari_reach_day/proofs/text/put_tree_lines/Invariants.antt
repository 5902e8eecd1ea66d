use Rattle.std.proofs.Common.{◌≡◌, ◌++◌, drop, map}
use Rattle.mari_reach_lines.specs.Spelling.{text_of_reach_lines}
use Rattle.mari_reach_day.specs.Lines.{item_line, reach_tree_lines}
use Rattle.mari_reach_day.proofs.text.put_tree_lines.Given as goal

-- with those still to come it is the whole
abbrev pub invariant-loop-item : goal.invariant-loop-item
invariant-loop-item l =
    l.out.items ++ text_of_reach_lines (map (item_line l.books l.gated) (drop l.item-index l.tree)) ≡ l.fn.out.items ++ text_of_reach_lines (reach_tree_lines l.books l.gated l.tree)
