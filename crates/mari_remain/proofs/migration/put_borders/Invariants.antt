use Rattle.std.proofs.Common.{◌≡◌, ◌++◌, drop, map}
use Rattle.std.specs.List.{flat_map}
use Rattle.mari_rows.specs.Printed.{line_of}
use Rattle.mari_remain.specs.Migrated.{border_record}
use Rattle.mari_remain.proofs.migration.put_borders.Given as goal

-- with the lines of those still to come it is the whole
abbrev pub invariant-loop-ends : goal.invariant-loop-ends
invariant-loop-ends l = l.text.items ++ flat_map line_of (map (border_record l.zones) (drop l.ends-index l.borders))
    ≡ l.fn.text.items ++ flat_map line_of (map (border_record l.zones) l.borders)
