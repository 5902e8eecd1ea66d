use Rattle.std.proofs.Common.{◌≤◌, ◌∙◌, arith, length, max, sym}
use Rattle.std.proofs.lemmas.Grind.{common_steps}
use Rattle.mari_rows.specs.declared.widths.TheConstants.{WIDEST}
use Rattle.mari_rows.specs.Records.{records_in}
use Rattle.mari_rows.specs.Rows.{columns_of}
use Rattle.mari_rows.proofs.WideLemmas.{equal-some, wide-header}
use Rattle.mari_rows.proofs.rows.has_header.Goals as goal

pub returns-then-eq : goal.returns-then-eq
returns-then-eq c =
    let wide = equal-some c.wide_line.result 1 (sym c.eq.ensures ∙ c.if-eq.true) in
    let columns = columns_of c.args.columns.now in
    let most = max c.len.result WIDEST in
    let few : length columns ≤ most = grind (arith, common_steps) in
    sym (wide-header most columns (records_in c.args.page.now) few (sym wide ∙ c.wide_line.ensures)).1
