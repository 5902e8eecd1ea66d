use Rattle.std.proofs.Common.{arith}
use Rattle.mari_settle.specs.Conditions.{LinesAddUp}
use Rattle.mari_settle.specs.Lines.{lines_together}
use Rattle.mari_settle.proofs.Lists.{changed_all, changed_more, same_after, unchanged_at}
use Rattle.mari_settle.proofs.addition.add_lines.Goals as goal

pub sum_of_lines-requires : goal.sum_of_lines-requires
sum_of_lines-requires c = unchanged_at LinesAddUp c.loop-i.lines c.args.lines.now c.args.others.now c.loop-i.i _ (omega arith) c.loop-i.auto.lines c.requires c.loop-i.invariant.rest

pub loop-i-preserved : goal.loop-i-preserved
loop-i-preserved c = record {
  written = changed_more lines_together LinesAddUp c.loop-i.lines c.args.lines.now c.args.others.now c.loop-i.i _ _
      (omega arith) c.loop-i.auto.lines c.requires c.loop-i.invariant.rest c.loop-i.invariant.written c.sum_of_lines.ensures;
  rest = same_after c.loop-i.lines c.args.lines.now c.loop-i.i _ c.loop-i.invariant.rest;
}

pub returns : goal.returns
returns c = changed_all lines_together LinesAddUp c.loop-i.lines c.args.lines.now c.args.others.now c.loop-i.i (omega arith) c.loop-i.auto.lines c.requires c.loop-i.invariant.written
