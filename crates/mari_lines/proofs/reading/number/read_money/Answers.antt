use Rattle.std.proofs.Common.{◌≡◌, ◌<◌, ◌^◌, ◌<ℤ◌, sym, ap, ◌∙◌, arith, to_z, of_z, pos, neg_ℤ}
use mir.Syntax.{w128}
use Rattle.std.specs.Int.RustNames.{unsigned_abs}
use Rattle.std.proofs.lemmas.Int.{ints}
use Rattle.mari_units.specs.Numbers.{printed_euros}
use Rattle.mari_lines.proofs.Numbers.{money_is, size_of_within, not_below_least, not_above_greatest}
use Rattle.mari_lines.proofs.reading.number.read_money.Goals as goal

pub returns-then-value-from : goal.returns-then-value-from
returns-then-value-from c = λ z r e.
    let small : unsigned_abs z.0 < 2 ^ 64 = omega arith in
    let below : c.value_of-value.result <ℤ neg_ℤ (pos 4000000000000000000) = grind (arith, ints) in
    not_below_least _ _ z.0 (c.value_of-value.ensures ∙ money_is z.0 c.args.text.now small e) below (size_of_within z.0 4000000000000000000 r).0

pub returns-then-value-from-2 : goal.returns-then-value-from-2
returns-then-value-from-2 c = λ z r e.
    let small : unsigned_abs z.0 < 2 ^ 64 = omega arith in
    let above : pos 4000000000000000000 <ℤ c.value_of-value.result = grind (arith, ints) in
    not_above_greatest _ _ z.0 (c.value_of-value.ensures ∙ money_is z.0 c.args.text.now small e) above (size_of_within z.0 4000000000000000000 r).1

pub returns-then-not-is_money_text : goal.returns-then-not-is_money_text
returns-then-not-is_money_text c = λ z r e.
    let small : unsigned_abs z.0 < 2 ^ 64 = omega arith in
    let passed : to_z w128 (of_z w128 c.value_of-value.result) ≡ c.value_of-value.result = omega (arith, ints) in
    let printed = ap printed_euros (passed ∙ c.value_of-value.ensures ∙ money_is z.0 c.args.text.now small e) ∙ e in
    let yes = c.if-not-is_money_text.ensures.1 (sym printed) in absurd cc
