use Rattle.std.proofs.Common.{◌≡◌, ◌++◌, map, take}
use Rattle.mari_blocks.specs.Joint.{shifted_border}
use Rattle.mari_blocks.proofs.parts.put_borders.Given as goal

-- the borders so far
abbrev pub invariant-loop-border : goal.invariant-loop-border
invariant-loop-border l = l.into.items ≡ l.fn.into.items ++ map (shifted_border l.zones) (take l.border-index l.borders)
