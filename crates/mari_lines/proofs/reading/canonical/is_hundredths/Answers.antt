use Rattle.std.proofs.Common.{◌/◌, [], ◌∷◌, refl, ◌∙◌}
use Rattle.std.specs.Fmt.{decimal}
use Rattle.mari_lines.proofs.Canonical.{before_end, through, never, hundredths_end}
use Rattle.mari_lines.proofs.reading.canonical.is_hundredths.Goals as goal

pub returns-in_default : goal.returns-in_default
returns-in_default c = never (λ e. c.in_default.ensures _ (e ∙ hundredths_end (decimal (c.args.number / 100)) _ _))

pub returns-in_default-before : goal.returns-in_default-before
returns-in_default-before c =
    let decimals = hundredths_end (decimal (c.args.number / 100)) _ _ in
    never (λ e. c.in_default-before.ensures _ ((before_end c.args.text.now _ _ _ _ c.in-Some.ensures decimals).1 e))

pub returns : goal.returns
returns c =
    through c.is_decimal.ensures (through
    (before_end c.in-Some.pointed.now _ _ (decimal (c.args.number / 100)) (46 ∷ []) c.in-Some-before.ensures refl)
    (before_end c.args.text.now _ _ _ _ c.in-Some.ensures (hundredths_end (decimal (c.args.number / 100)) _ _)))
