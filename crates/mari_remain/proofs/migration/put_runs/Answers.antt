use Rattle.std.proofs.Common.{◌≡◌, ◌+◌, ◌++◌, rules}
use Rattle.std.specs.List.{flat_map}
use Rattle.mari_rows.specs.Printed.{line_of}
use Rattle.mari_remain.specs.Migrated.{run_records}
use Rattle.mari_remain.proofs.Printing.{runs-more}
use Rattle.mari_remain.proofs.migration.put_runs.Goals as goal

pub loop-run-preserved : goal.loop-run-preserved
loop-run-preserved c =
    let books = c.args.books.now in
    let k = c.loop-run.run in
    let put : c.put_run.new.text.items ≡ c.loop-run.text.items ++ flat_map line_of (run_records books (k + 1)) = search rules in
    rw (put, c.loop-run.invariant) (runs-more line_of (run_records books) c.args.text.now.items k)
