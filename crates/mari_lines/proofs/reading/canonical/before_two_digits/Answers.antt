use Rattle.std.proofs.Common.{◌∙◌, arith}
use Rattle.mari_lines.proofs.Canonical.{two_off, none_off}
use Rattle.mari_lines.proofs.reading.canonical.before_two_digits.Goals as goal

pub returns-in_err-front : goal.returns-in_err-front
returns-in_err-front c =
    none_off c.from_residual.result c.args.text.now _ _ _ c.from_residual.ensures c.last_digit.ensures
    c.in_err-front.ensures

pub returns : goal.returns
returns c =
    two_off c.before-3.result c.args.text.now c.in_ok-front.front.now _ _ _ _ c.in_ok-front.ensures
    (c.last_digit-2.ensures ∙ omega arith) c.last_digit.ensures c.before-3.ensures
