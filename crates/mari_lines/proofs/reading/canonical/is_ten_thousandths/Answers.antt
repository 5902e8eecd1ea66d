use Rattle.std.proofs.Common.{◌∙◌}
use Rattle.mari_lines.proofs.Canonical.{before_end, through, never, ten_thousandths_end}
use Rattle.mari_lines.proofs.reading.canonical.is_ten_thousandths.Goals as goal

pub returns-in_default : goal.returns-in_default
returns-in_default c = never (λ e. c.in_default.ensures _ (e ∙ ten_thousandths_end c.args.number))

pub returns : goal.returns
returns c =
    let decimals = ten_thousandths_end c.args.number in
    through c.is_hundredths.ensures (before_end c.args.text.now _ _ _ _ c.in-Some.ensures decimals)
