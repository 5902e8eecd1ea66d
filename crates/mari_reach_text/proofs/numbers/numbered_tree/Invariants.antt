use Rattle.std.proofs.Common.{◌≡◌, ◌++◌, Some, map}
use Rattle.mari_reach_text.specs.Numbers.{item_of}
use Rattle.mari_reach_text.proofs.numbers.numbered_tree.Given as goal

-- with those still to come it is the whole
abbrev pub invariant-loop-item : goal.invariant-loop-item
invariant-loop-item l = map Some l.tree.items ++ map (item_of l.books l.gated) l.item-iterator.rest.items ≡ map (item_of l.books l.gated) l.fn.named
