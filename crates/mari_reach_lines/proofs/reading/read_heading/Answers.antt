use Rattle.std.proofs.Common.{◌∷◌, [], sym, ap, subst, ◌∙◌}
use Rattle.std.proofs.lemmas.Result.{err_from_is_err_and}
use Rattle.mari_lines.specs.Ranges.{InRange, IsHeading}
use Rattle.mari_lines.specs.Spelling.{heading_fields, spelling}
use Rattle.mari_lines.specs.declared.line.Line.{Line}
use Rattle.mari_lines.specs.declared.line.Line.TheVariants as line
use Rattle.mari_lines.proofs.NotRead.{handed_on}
use Rattle.mari_reach_lines.proofs.Pieces.{heading_text, run_of, the_line}
use Rattle.mari_reach_lines.proofs.reading.read_heading.Goals as goal

pub returns-in_err-heading : goal.returns-in_err-heading
returns-in_err-heading c =
    let a = c.args.run.now in
    let b = c.args.quarter.now in
    let d = c.args.kind.now in
    let text = c.as_slice.ensures.value ∙ c.in_ok-text.ensures in
    handed_on InRange spelling c.as_slice.result.now IsHeading heading_fields (a ∷ b ∷ d ∷ []) _ c.from_residual-in_err-heading.result
    (err_from_is_err_and c.from_residual-in_err-heading.result c.from_residual-in_err-heading.ensures.1) c.in_err-heading.ensures
    (λ h r e. (line.Run h, r, run_of h a b d e ∙ sym text))

pub returns-in_default : goal.returns-in_default
returns-in_default c = λ h r e.
    let text = c.as_slice.ensures.value ∙ c.in_ok-text.ensures in
    let read = c.in_ok-heading.ensures in
    c.in_default.not-Run h (the_line c.in_ok-heading.field-0 (line.Run h) c.as_slice.result.now read.0 read.1 (r, run_of h c.args.run.now c.args.quarter.now c.args.kind.now e ∙ sym text))

pub returns : goal.returns
returns c =
    let h = c.in-Run.heading in
    let text = c.as_slice.ensures.value ∙ c.in_ok-text.ensures in
    let read = c.in_ok-heading.ensures in
    let range : InRange (line.Run h) = subst (λ (l : Line). InRange l) c.in-Run.is read.0 in
    (range, heading_text h c.args.run.now c.args.quarter.now c.args.kind.now c.requires.run c.requires.quarter c.requires.kind range (sym (ap spelling c.in-Run.is) ∙ read.1 ∙ text))
