use Rattle.std.proofs.Common.{◌≡◌, ◌++◌, ◌∷◌, map, take}
use Rattle.std.specs.Prelude.{nat_lt}
use Rattle.mari_feed.proofs.Joined.{joined}
use Rattle.mari_feed.proofs.text.put_list.Given as goal

-- the items so far stand after the bracket
abbrev pub invariant-loop-item : goal.invariant-loop-item
invariant-loop-item g l = record {
  text : l.text.items ≡ l.fn.text.items ++ 91 ∷ joined (map g.F.Printed.written (take l.item-index l.items));
  later : l.later ≡ nat_lt 0 l.item-index;
}
