use Rattle.std.proofs.Common.{◌≡◌, ◌++◌, drop, map}
use Rattle.mari_lines.specs.Spelling.{spaced, zone_text}
use Rattle.mari_lines.proofs.writing.tree.put_zones.Given as goal

-- with the texts of those still to come it is the whole
abbrev pub invariant-loop-zone : goal.invariant-loop-zone
invariant-loop-zone l = l.out.items ++ spaced (map zone_text (drop l.zone-index l.zones)) ≡ l.fn.out.items ++ spaced (map zone_text l.zones)
