use Rattle.std.proofs.Common.{◌++◌, sym, ap, subst, ◌∙◌}
use lib.Chars.{codes}
use Rattle.std.proofs.lemmas.Result.{err_from_is_err_and}
use Rattle.mari_lines.specs.Ranges.{InRange}
use Rattle.mari_lines.specs.Spelling.{spelling}
use Rattle.mari_lines.specs.declared.line.Line.{Line}
use Rattle.mari_lines.specs.declared.line.Line.TheVariants as line
use Rattle.mari_lines.proofs.NotRead.{handed_on}
use Rattle.mari_reach_lines.specs.Ranges.{ReachInRange}
use Rattle.mari_reach_lines.specs.Spelling.{reach_spelling}
use Rattle.mari_reach_lines.proofs.Pieces.{head_of_first, head_part, same_rest, the_line}
use Rattle.mari_reach_lines.proofs.reading.read_head.Goals as goal

pub returns-in_default : goal.returns-in_default
returns-in_default c = λ y r e. let p = head_part y c.args.rest.now r e in c.in_default.ensures p.text p.after

pub returns-in_err-date : goal.returns-in_err-date
returns-in_err-date c =
    handed_on InRange spelling (codes "mari 1 " ++ c.in-Some.fields.now) ReachInRange reach_spelling (codes "mari " ++ c.args.rest.now) _ c.from_residual.result
    (err_from_is_err_and c.from_residual.result c.from_residual.ensures.1) c.in_err-date.ensures
    (λ y r e. let p = head_part y c.args.rest.now r e in let f = same_rest c.args.rest.now c.in-Some.fields.now p c.in-Some.ensures in (line.Head p.date p.quarters p.budget, f.0, f.1))

pub returns-in_default-2 : goal.returns-in_default-2
returns-in_default-2 c = λ y r e.
    let p = head_part y c.args.rest.now r e in
    let read = c.in_ok-date.ensures in
    c.in_default-2.not-Head p.date p.quarters p.budget
    (the_line c.in_ok-date.field-0 (line.Head p.date p.quarters p.budget) (codes "mari 1 " ++ c.in-Some.fields.now) read.0 read.1 (same_rest c.args.rest.now c.in-Some.fields.now p c.in-Some.ensures))

pub returns : goal.returns
returns c =
    let h = c.in-Head in
    let read = c.in_ok-date.ensures in
    let text = head_of_first h.date h.quarters h.budget c.in-Some.fields.now (sym (ap spelling h.is) ∙ read.1) in
    (subst (λ (l : Line). InRange l) h.is read.0, text ∙ ap (λ t. codes "mari " ++ t) (sym c.in-Some.ensures))
