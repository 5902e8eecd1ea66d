use Rattle.std.proofs.Common.{◌≡◌, ◌++◌, drop}
use Rattle.std.specs.List.{flat_map}
use Rattle.mari_publish.specs.Lines.{item_lines}
use Rattle.mari_publish.specs.Texts.{text_of_lines}
use Rattle.mari_publish.proofs.write.tree.put_items.Given as goal

-- with the texts of those still to come it is the whole
abbrev pub invariant-loop-item : goal.invariant-loop-item
invariant-loop-item l = l.out.items ++ text_of_lines (flat_map item_lines (drop l.item-index l.items)) ≡ l.fn.out.items ++ text_of_lines (flat_map item_lines l.items)
