use Rattle.std.proofs.Common.{ap, ◌∙◌, ◌++◌, ◌∷◌, [], arith}
use Rattle.std.specs.Fmt.{decimal}
use Rattle.std.proofs.lemmas.Fmt.{decimal_step_wide}
use Rattle.mari_lines.proofs.Canonical.{one_digit, ends_in_digit, is_nothing, before_end, through, never}
use Rattle.mari_lines.proofs.reading.canonical.+is_decimal.Goals as goal

pub returns-in_default : goal.returns-in_default
returns-in_default k c =
    never (ends_in_digit c.args.number _ c.args.text.now (omega arith) c.last_digit.ensures c.in_default.ensures)

pub returns-then-number-lt10 : goal.returns-then-number-lt10
returns-then-number-lt10 k c =
    let ended = c.in-Some.ensures ∙ ap (λ d. c.in-Some.front.now ++ d ∷ []) c.last_digit.ensures in
    through (is_nothing c.is_empty.result c.in-Some.front.now c.is_empty.ensures)
    (before_end c.args.text.now _ (decimal c.args.number) [] _ ended (one_digit c.args.number c.if-number-lt10.true))

pub returns : goal.returns
returns k c =
    let ended = c.in-Some.ensures ∙ ap (λ d. c.in-Some.front.now ++ d ∷ []) c.last_digit.ensures in
    let step = decimal_step_wide c.args.number (omega arith) (omega arith) in
    through c.is_decimal.ensures (before_end c.args.text.now _ (decimal c.args.number) _ _ ended step)
