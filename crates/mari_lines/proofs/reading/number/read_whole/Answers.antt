use Rattle.std.proofs.Common.{◌≡◌, ◌<ℤ◌, sym, ap, ◌∙◌, arith, to_z, of_z}
use mir.Syntax.{w128}
use Rattle.std.specs.Fmt.{signed_decimal}
use Rattle.std.proofs.lemmas.Int.{ints}
use Rattle.mari_lines.proofs.Numbers.{whole_is, size_between, not_below_least, not_above_greatest}
use Rattle.mari_lines.proofs.reading.number.read_whole.Goals as goal

pub returns-then-value-least : goal.returns-then-value-least
returns-then-value-least c = λ z r e.
    let small = size_between c.args.least c.args.greatest z c.requires.0 c.requires.1 r.0 r.1 in
    let below : c.value_of-value.result <ℤ c.args.least = grind (arith, ints) in
    not_below_least _ _ z (c.value_of-value.ensures ∙ whole_is z c.args.text.now small e) below r.0

pub returns-then-value-greatest : goal.returns-then-value-greatest
returns-then-value-greatest c = λ z r e.
    let small = size_between c.args.least c.args.greatest z c.requires.0 c.requires.1 r.0 r.1 in
    let above : c.args.greatest <ℤ c.value_of-value.result = grind (arith, ints) in
    not_above_greatest _ _ z (c.value_of-value.ensures ∙ whole_is z c.args.text.now small e) above r.1

pub returns-then-not-is_whole_text : goal.returns-then-not-is_whole_text
returns-then-not-is_whole_text c = λ z r e.
    let small = size_between c.args.least c.args.greatest z c.requires.0 c.requires.1 r.0 r.1 in
    let passed : to_z w128 (of_z w128 c.value_of-value.result) ≡ c.value_of-value.result = omega (arith, ints) in
    let same = passed ∙ c.value_of-value.ensures ∙ whole_is z c.args.text.now small e in
    let printed = ap signed_decimal same ∙ e in
    let yes = c.if-not-is_whole_text.ensures.1 (sym printed) in absurd cc
