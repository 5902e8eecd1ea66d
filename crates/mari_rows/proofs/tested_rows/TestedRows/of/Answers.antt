use Rattle.std.proofs.Common.{◌≡◌, ◌≤◌, ◌∙◌, Err, arith, ap, length, max, rules, sym}
use Rattle.std.proofs.lemmas.Grind.{common_steps}
use Rattle.mari_rows.specs.Records.{records_in}
use Rattle.mari_rows.specs.Rows.{columns_of, rows_after_header, rows_checked}
use Rattle.mari_rows.specs.declared.faults.RowFault.TheVariants.{BadHeader}
use Rattle.mari_rows.specs.declared.widths.TheConstants.{WIDEST}
use Rattle.mari_rows.proofs.RowLemmas.{fault-checked, length-rows_after}
use Rattle.mari_rows.proofs.WideLemmas.{equal-some, narrow-header, wide-header}
use Rattle.mari_rows.proofs.tested_rows.TestedRows.of.Goals as goal

pub returns-then-eq-clause-fault : goal.returns-then-eq-clause-fault
returns-then-eq-clause-fault c =
    let wide = equal-some c.wide_line-wide.result 1 (sym c.eq.ensures ∙ c.if-eq.true) in
    let columns = columns_of c.args.columns.now in
    let most = max c.len-width.result WIDEST in
    let few : length columns ≤ most = grind (arith, common_steps) in
    let none = (wide-header most columns (records_in c.args.page.now) few (sym wide ∙ c.wide_line-wide.ensures)).0 in
    fault-checked (length columns) (rows_after_header columns (records_in c.args.page.now)) BadHeader none

pub returns-in_err-rows-clause-fault : goal.returns-in_err-rows-clause-fault
returns-in_err-rows-clause-fault c =
    let fault = c.in_err-rows.field-0.0 in
    let same : c.from_residual-in_err-rows.result ≡ Err fault = search rules in
    let columns = columns_of c.args.columns.now in
    let there = rw (c.as_slice.ensures.value, c.in_ok-columns.ensures) at c.in_err-rows.ensures.fault in
    rw same (fault-checked (length columns) (rows_after_header columns (records_in c.args.page.now)) fault there)

pub returns-clause-rows : goal.returns-clause-rows
returns-clause-rows c =
    let columns = columns_of c.args.columns.now in
    let read = rw (c.as_slice.ensures.value, c.in_ok-columns.ensures) at c.in_ok-rows.ensures.rows in
    let width : c.len-width.result ≡ length columns = grind (arith, common_steps) in
    rw width (ap (rows_checked (length columns)) read)

pub returns-clause-few : goal.returns-clause-few
returns-clause-few c =
    let columns = columns_of c.args.columns.now in
    let read = rw (c.as_slice.ensures.value, c.in_ok-columns.ensures) at c.in_ok-rows.ensures.rows in
    length-rows_after columns c.args.page.now c.in_ok-rows.rows read

pub returns-clause-wide : goal.returns-clause-wide
returns-clause-wide c =
    let columns = columns_of c.args.columns.now in
    let most = max c.len-width.result WIDEST in
    let few : length columns ≤ most = grind (arith, common_steps) in
    let read = rw (c.as_slice.ensures.value, c.in_ok-columns.ensures) at c.in_ok-rows.ensures.rows in
    (most, omega arith, c.wide_line-wide.ensures ∙ narrow-header most columns (records_in c.args.page.now) c.in_ok-rows.rows few read)
