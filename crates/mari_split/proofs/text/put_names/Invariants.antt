use Rattle.std.proofs.Common.{◌≡◌, ◌++◌, drop, map}
use Rattle.mari_rows.specs.Names.{name_at}
use Rattle.mari_lines.specs.Spelling.{spaced}
use Rattle.mari_split.proofs.text.put_names.Given as goal

-- with those still to come it is the whole
abbrev pub invariant-loop-zone : goal.invariant-loop-zone
invariant-loop-zone l = l.out.items ++ spaced (map (name_at l.names) (drop l.zone-index l.zones)) ≡ l.fn.out.items ++ spaced (map (name_at l.names) l.zones)
