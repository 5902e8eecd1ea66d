use Rattle.std.proofs.Common.{◌≡◌, ◌++◌, map}
use Rattle.std.specs.List.{flat_map, range_with_len}
use Rattle.mari_rows.specs.Printed.{line_of}
use Rattle.mari_remain.specs.Migrated.{limit_record}
use Rattle.mari_remain.specs.RunMarket.{ends_at, run_limits}
use Rattle.mari_remain.proofs.migration.put_run.Given as goal

-- the lines so far
abbrev pub invariant-loop-number : goal.invariant-loop-number
invariant-loop-number l = l.text.items
    ≡ l.fn.text.items ++ flat_map line_of (map (λ k. limit_record l.books.zones l.run (ends_at l.books.borders.borders k) (run_limits l.books l.run k)) (range_with_len 0 l.number))
