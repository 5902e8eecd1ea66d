use Rattle.std.proofs.Common.{◌/◌, ◌%◌, arith, sym, ap, ◌∙◌}
use Rattle.std.specs.Char.{is_ascii_digit}
use Rattle.std.proofs.lemmas.Fmt.{decimal_injective}
use Rattle.mari_units.proofs.Digits.{digit_byte}
use Rattle.mari_lines.proofs.Signs.{hundredths_parts}
use Rattle.mari_lines.proofs.reading.number.hundredths.Goals as goal

pub returns-then-not-is_ascii_digit : goal.returns-then-not-is_ascii_digit
returns-then-not-is_ascii_digit c = λ n le e.
    let parts = hundredths_parts n _ c.args.text.now _ _ e c.in_ok-whole.ensures in
    let digit = digit_byte (n % 100 / 10) (omega arith) in
    let same = ap is_ascii_digit parts.1 in
    grind (arith, digit, same, c.if-not-is_ascii_digit.ensures.value)

pub returns-then-not-is_ascii_digit-2 : goal.returns-then-not-is_ascii_digit-2
returns-then-not-is_ascii_digit-2 c = λ n le e.
    let parts = hundredths_parts n _ c.args.text.now _ _ e c.in_ok-whole.ensures in
    let digit = digit_byte (n % 10) (omega arith) in
    let same = ap is_ascii_digit parts.2 in
    grind (arith, digit, same, c.if-not-is_ascii_digit-2.ensures.value)

pub returns-in_default : goal.returns-in_default
returns-in_default c = λ n le e.
    let parts = hundredths_parts n _ c.args.text.now _ _ e c.in_ok-whole.ensures in
    c.in_default.ensures (n / 100) (omega (arith, le)) parts.0

pub returns-then-number-from : goal.returns-then-number-from
returns-then-number-from c = λ n le e.
    let parts = hundredths_parts n _ c.args.text.now _ _ e c.in_ok-whole.ensures in
    let whole = decimal_injective (n / 100) c.in-Some.whole (omega (arith, le)) (omega arith) (parts.0 ∙ sym c.in-Some.ensures.1) in
    grind (arith, whole, parts.1, parts.2, le)
