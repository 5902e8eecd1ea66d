use Rattle.std.proofs.Common.{◌∙◌, ◌<◌, ◌++◌, length, get_or, arith, ap}
use Rattle.mari_lines.specs.declared.line.BorderLine.{BorderLine}
use Rattle.mari_capacity.specs.Lines.{border_line}
use Rattle.mari_capacity.proofs.Texts.{all-put, one-put}
use Rattle.mari_capacity.specs.Worth.{no_worth}
use Rattle.mari_capacity.proofs.lines.put_borders.Goals as goal

pub loop-border-preserved : goal.loop-border-preserved
loop-border-preserved c =
    let there : c.loop-border.border < length c.args.worths.now = omega (arith, c.requires.lengths) in
    one-put c.args.lines.now c.args.worths.now c.loop-border.border c.index-lines-border.result no_worth c.loop-border.text.items c.put_border.new.text.items _ (omega arith) there
    (c.in_ok-put_border.ensures ∙ ap (λ (l : BorderLine). c.loop-border.text.items ++ border_line l (get_or c.args.worths.now c.loop-border.border no_worth)) c.index-lines-border.is)
    c.loop-border.invariant

pub returns : goal.returns
returns c = all-put c.args.lines.now c.args.worths.now c.loop-border.border c.loop-border.text.items _ (omega arith) c.loop-border.invariant
