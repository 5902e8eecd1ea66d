use Rattle.std.proofs.Common.{◌≡◌, ◌++◌}
use Rattle.std.specs.List.{flat_map, range_with_len}
use Rattle.mari_rows.specs.Printed.{line_of}
use Rattle.mari_remain.specs.Migrated.{run_records}
use Rattle.mari_remain.proofs.migration.put_runs.Given as goal

-- the lines so far
abbrev pub invariant-loop-run : goal.invariant-loop-run
invariant-loop-run l = l.text.items ≡ l.fn.text.items ++ flat_map line_of (flat_map (run_records l.books) (range_with_len 1 l.run))
