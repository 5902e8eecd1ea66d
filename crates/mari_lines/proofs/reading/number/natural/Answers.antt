use Rattle.std.proofs.Common.{◌≡◌, ◌<◌, ◌+◌, ◌*◌, ◌-◌, length, get_or, ap, subst, ◌∙◌, ⊎_elim, arith}
use Rattle.std.proofs.lemmas.List.{take_all}
use Rattle.std.proofs.lemmas.List.Sums.{fold_more}
use Rattle.std.proofs.lemmas.Fmt.{decimal_nonempty}
use Rattle.mari_units.proofs.Digits.{AreDigits}
use Rattle.mari_units.specs.Numbers.{value_of_digits}
use Rattle.mari_lines.proofs.Naturals.{zero_alone, other_byte, digits_so_far, digits_are}
use Rattle.mari_lines.proofs.reading.number.natural.Goals as goal

pub returns-then-is_empty : goal.returns-then-is_empty
returns-then-is_empty c = λ n le e.
    let some = decimal_nonempty n (omega arith) in
    let same = ap length e in
    grind (arith, some, same, c.if-is_empty.ensures)

pub returns-then-text-gt1 : goal.returns-then-text-gt1
returns-then-text-gt1 c = λ n le e. zero_alone n c.args.text.now (omega arith) e c.if-text-eq48.true c.if-text-gt1.true

pub returns-then-not-is_ascii_digit : goal.returns-then-not-is_ascii_digit
returns-then-not-is_ascii_digit c = λ n le e. other_byte n c.args.text.now c.loop-byte.byte-index (omega arith) e c.loop-byte-test.true (grind (arith, c.if-not-is_ascii_digit.ensures.value))

pub returns-then-value-from : goal.returns-then-value-from
returns-then-value-from c = λ n le e.
    let most = digits_so_far n (c.loop-byte.byte-index + 1) c.args.text.now (omega arith) e in
    let next = fold_more (λ n d. 10 * n + (d - 48)) 0 c.args.text.now c.loop-byte.byte-index 0 c.loop-byte-test.true in
    let great : c.args.greatest < 10 * c.loop-byte.value + (get_or c.args.text.now c.loop-byte.byte-index 0 - 48) = grind arith in
    omega (arith, le, most, next, great, c.loop-byte.invariant.value)

pub returns : goal.returns
returns c =
    let all = take_all c.loop-byte.byte-index c.args.text.now c.loop-byte-test.false in
    let some : 0 < length c.args.text.now = grind arith in
    let alone : get_or c.args.text.now 0 0 ≡ 48 → length c.args.text.now ≡ 1 = λ zero. ⊎_elim (λ first. omega (arith, some, first.1)) (λ other. absurd (other zero)) c.else-text-eq48.either in (
      c.loop-byte.invariant.low,
      digits_are c.loop-byte.value c.args.text.now (omega arith) (c.loop-byte.invariant.value ∙ ap value_of_digits all) (subst (λ t. AreDigits t) all c.loop-byte.invariant.digits) some alone,
    )
