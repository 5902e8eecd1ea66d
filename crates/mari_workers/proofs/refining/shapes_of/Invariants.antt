use Rattle.std.proofs.Common.{◌≡◌, map, take}
use Rattle.mari_core.specs.Preorder.{shape_of}
use Rattle.mari_workers.proofs.refining.shapes_of.Given as goal

abbrev pub invariant-loop-item : goal.invariant-loop-item
invariant-loop-item l = l.items.items ≡ map shape_of (take l.item-index l.tree)
