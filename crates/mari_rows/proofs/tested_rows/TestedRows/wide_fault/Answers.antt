use Rattle.std.proofs.Common.{◌∙◌, sym}
use Rattle.mari_rows.proofs.WideLemmas.{equal-some, wide-first}
use Rattle.mari_rows.proofs.tested_rows.TestedRows.wide_fault.Goals as goal

pub returns-then-eq : goal.returns-then-eq
returns-then-eq c =
    let rows = c.args.self.now in
    let known = c.requires in
    let line = c.next_line-line.result in
    let from = c.next_line-line.ensures in
    let here = equal-some rows.wide line (sym c.eq.ensures ∙ c.if-eq.true) in
    wide-first rows.width known.0 line rows.rows from.0 known.1 from.1 (sym here ∙ known.2)
