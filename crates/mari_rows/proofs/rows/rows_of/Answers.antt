use Rattle.std.proofs.Common.{◌≡◌, Ok, rules}
use Rattle.mari_rows.specs.Rows.{rows_in}
use Rattle.mari_rows.proofs.RowLemmas.{widths}
use Rattle.mari_rows.proofs.rows.rows_of.Goals as goal

pub returns-clause-widths : goal.returns-clause-widths
returns-clause-widths c =
    let read : rows_in c.args.columns.now c.args.bytes.now ≡ Ok c.of.result = search rules in
    widths c.args.columns.now c.args.bytes.now c.of.result read
