use Rattle.mari_stream.specs.Coming.{come_of}
use Rattle.mari_stream.proofs.LineByLine.{nothing-step}
use Rattle.mari_stream.proofs.coming.next_part.Goals as goal

pub handle_line-requires-clause-come : goal.handle_line-requires-clause-come
handle_line-requires-clause-come g c = let come = c.requires.come in (come.0, come.1, c.lines.invariant.stands come.0 come.1 come.2)

pub forget-requires-clause-no_line : goal.forget-requires-clause-no_line
forget-requires-clause-no_line g c =
    let come = c.requires.come in
    let handled = c.in-Ok-Nothing.ensures.handles come.0 come.1 (c.lines.invariant.stands come.0 come.1 come.2) in
    (nothing-step g.F.TextForm.form (come_of c.handle_line.new.coming) come.0 come.1 c.in-Ok-Nothing.field-0 c.in-Ok-Nothing.field-0-is handled).no_line

pub returns-in-Ok-Nothing-clause-next : goal.returns-in-Ok-Nothing-clause-next
returns-in-Ok-Nothing-clause-next g c = λ text parts s.
    let handled = c.in-Ok-Nothing.ensures.handles text parts (c.lines.invariant.stands text parts s) in
    let all = nothing-step g.F.TextForm.form (come_of c.handle_line.new.coming) text parts c.in-Ok-Nothing.field-0 c.in-Ok-Nothing.field-0-is handled in
    record { stands = c.forget.ensures.stands text parts all.stands; no_line = c.forget.ensures.no_line; none = all.none; no_fault = all.no_fault }
