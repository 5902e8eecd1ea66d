use Rattle.std.proofs.Common.{◌≡◌, ◌++◌, drop, filter, map}
use Rattle.mari_islands.specs.Islands.{has_first}
use Rattle.mari_islands.specs.Part.{border_among, is_border_in}
use Rattle.mari_islands.proofs.part.borders_among.Given as goal

-- with those still to come it is the whole
abbrev pub invariant-loop-border : goal.invariant-loop-border
invariant-loop-border l =
    l.own.items ++ map (border_among l.zones) (filter (is_border_in (has_first l.firsts l.first)) (drop l.border-index l.borders)) ≡ map
    (border_among l.zones) (filter (is_border_in (has_first l.firsts l.first)) l.borders)
