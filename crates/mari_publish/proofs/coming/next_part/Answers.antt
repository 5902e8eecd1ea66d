use Rattle.std.proofs.Common.{Some, None, ap, ◌∙◌}
use Rattle.mari_publish.specs.declared.coming.Handled.TheVariants as step
use Rattle.mari_publish.specs.Pieces.{come_of}
use Rattle.mari_publish.proofs.Pieces.{counts_of, room_of, lines_of_few, taken, taken_part, nothing_next, fault_next, line_step, nothing_step}
use Rattle.mari_publish.proofs.coming.next_part.Goals as goal

pub take_bids-requires-clause-lines : goal.take_bids-requires-clause-lines
take_bids-requires-clause-lines c =
    lines_of_few (come_of c.lines.coming)
    (c.requires.reader.0, c.requires.reader.1, c.lines.invariant.stands c.requires.reader.0 c.requires.reader.1 c.requires.reader.2)

pub handle_line-requires-clause-counts : goal.handle_line-requires-clause-counts
handle_line-requires-clause-counts c =
    counts_of (come_of c.take_bids.new.coming)
    (c.requires.reader.0, c.requires.reader.1, c.take_bids.ensures.stands _ _ (c.lines.invariant.stands c.requires.reader.0 c.requires.reader.1 c.requires.reader.2))

pub handle_line-requires-clause-room : goal.handle_line-requires-clause-room
handle_line-requires-clause-room c = room_of (come_of c.take_bids.new.coming)
    (c.requires.reader.0, c.requires.reader.1, c.take_bids.ensures.stands _ _ (c.lines.invariant.stands c.requires.reader.0 c.requires.reader.1 c.requires.reader.2))

pub handle_line-requires-clause-lines : goal.handle_line-requires-clause-lines
handle_line-requires-clause-lines c =
    lines_of_few (come_of c.take_bids.new.coming)
    (c.requires.reader.0, c.requires.reader.1, c.take_bids.ensures.stands _ _ (c.lines.invariant.stands c.requires.reader.0 c.requires.reader.1 c.requires.reader.2))

pub lines-preserved : goal.lines-preserved
lines-preserved c = record {
  handled = c.handle_line.ensures.handled;
  stands = λ text parts s. taken (come_of c.take_bids.new.coming) (come_of c.handle_line.new.coming) None (line_step _ _ c.in-Ok-Line-None.field-0 None (c.in-Ok-Line-None.field-0-is
      ∙ ap step.Line c.in-Ok-Line-None.field-0-0-is) c.in-Ok-Line-None.ensures.handles) text parts (c.take_bids.ensures.stands text parts (c.lines.invariant.stands text parts s));
}

pub returns-in-Ok-Line-Some-clause-next : goal.returns-in-Ok-Line-Some-clause-next
returns-in-Ok-Line-Some-clause-next c = λ text parts s.
    taken_part (come_of c.take_bids.new.coming) (come_of c.handle_line.new.coming) c.in-Ok-Line-Some.part
    (line_step _ _ c.in-Ok-Line-Some.field-0 (Some c.in-Ok-Line-Some.part) (c.in-Ok-Line-Some.field-0-is ∙ ap step.Line c.in-Ok-Line-Some.field-0-0-is) c.in-Ok-Line-Some.ensures.handles)
    text parts (c.take_bids.ensures.stands text parts (c.lines.invariant.stands text parts s))

pub returns-in-Ok-Line-Some-clause-stands : goal.returns-in-Ok-Line-Some-clause-stands
returns-in-Ok-Line-Some-clause-stands c = λ text parts s.
    taken (come_of c.take_bids.new.coming) (come_of c.handle_line.new.coming) (Some c.in-Ok-Line-Some.part)
    (line_step _ _ c.in-Ok-Line-Some.field-0 (Some c.in-Ok-Line-Some.part) (c.in-Ok-Line-Some.field-0-is ∙ ap step.Line c.in-Ok-Line-Some.field-0-0-is) c.in-Ok-Line-Some.ensures.handles)
    text parts (c.take_bids.ensures.stands text parts (c.lines.invariant.stands text parts s))

pub returns-in-Ok-Nothing-clause-next : goal.returns-in-Ok-Nothing-clause-next
returns-in-Ok-Nothing-clause-next c = λ text parts s.
    nothing_next (come_of c.take_bids.new.coming) text parts (c.take_bids.ensures.stands text parts (c.lines.invariant.stands text parts s))
    (nothing_step _ (come_of c.handle_line.new.coming) c.in-Ok-Nothing.field-0 c.in-Ok-Nothing.field-0-is c.in-Ok-Nothing.ensures.handles)

pub returns-in-Err-clause-next : goal.returns-in-Err-clause-next
returns-in-Err-clause-next c = λ text parts s.
    (fault_next (come_of c.take_bids.new.coming) (come_of c.handle_line.new.coming) c.in-Err.fault c.in-Err.ensures.handles text parts
    (c.take_bids.ensures.stands text parts (c.lines.invariant.stands text parts s))).0

pub returns-in-Err-clause-stands : goal.returns-in-Err-clause-stands
returns-in-Err-clause-stands c = λ text parts s.
    (fault_next (come_of c.take_bids.new.coming) (come_of c.handle_line.new.coming) c.in-Err.fault c.in-Err.ensures.handles text parts
    (c.take_bids.ensures.stands text parts (c.lines.invariant.stands text parts s))).1
