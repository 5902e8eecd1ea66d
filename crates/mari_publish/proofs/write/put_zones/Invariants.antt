use Rattle.std.proofs.Common.{◌≡◌, ◌++◌, drop, map}
use Rattle.mari_publish.specs.Texts.{text_of_lines}
use Rattle.mari_lines.specs.declared.line.Line.TheVariants as line
use Rattle.mari_publish.proofs.write.put_zones.Given as goal

-- with the texts of those still to come it is the whole
abbrev pub invariant-loop-zone : goal.invariant-loop-zone
invariant-loop-zone l = l.out.items ++ text_of_lines (map line.Zone (drop l.zone-index l.zones)) ≡ l.fn.out.items ++ text_of_lines (map line.Zone l.zones)
