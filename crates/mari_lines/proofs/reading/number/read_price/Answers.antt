use Rattle.std.proofs.Common.{◌≡◌, arith, sym, ap, ◌∙◌, subst, to_z, of_z}
use mir.Syntax.{w64}
use Rattle.std.specs.Int.RustNames.{unsigned_abs}
use Rattle.mari_units.specs.Numbers.{printed_cents}
use Rattle.mari_units.specs.Prices.{IsPrice}
use Rattle.mari_lines.proofs.Numbers.{size_of_within}
use Rattle.mari_lines.proofs.Signs.{passed_on, same_hundredths, size_at_most, price_parts, price_of_parts, no_minus_zero}
use Rattle.mari_lines.proofs.reading.number.read_price.Goals as goal

pub returns-in_default : goal.returns-in_default
returns-in_default c = λ z r e.
    let small = size_at_most z.0 9999900 r.low r.high in
    let parts = price_parts z.0 _ _ c.args.text.now (omega (arith, small)) e c.split_sign-negative.ensures.parts c.split_sign-negative.ensures.unsigned in
    c.in_default.ensures (unsigned_abs z.0) small parts.1

pub returns-in-None : goal.returns-in-None
returns-in-None c = λ z r e.
    let small = size_at_most z.0 9999900 r.low r.high in
    let parts = price_parts z.0 _ _ c.args.text.now (omega (arith, small)) e c.split_sign-negative.ensures.parts c.split_sign-negative.ensures.unsigned in
    let size = same_hundredths (unsigned_abs z.0) c.in-Some.cents (omega (arith, small)) (omega arith) (parts.1 ∙ sym c.in-Some.ensures.1) in
    no_minus_zero z.0 (parts.0 ∙ c.in-None.ensures.0) (size ∙ c.in-None.ensures.1)

pub returns-in-Some-signed : goal.returns-in-Some-signed
returns-in-Some-signed c =
    let z = c.in-Some-signed.price in
    let size = c.in-Some-signed.ensures.1 in
    let bounds = size_of_within z 9999900 (omega (arith, size, c.in-Some.ensures.0)) in
    let passed : to_z w64 (of_z w64 z) ≡ z = passed_on z (omega (arith, size, c.in-Some.ensures.0)) in
    let printed = price_of_parts z _ c.in-Some.cents _ c.args.text.now c.in-Some-signed.ensures.0 size c.in-Some.ensures.1 c.split_sign-negative.ensures.parts in
    (subst (λ y. IsPrice y) (sym passed) (record { low = bounds.0; high = bounds.1 }), ap printed_cents passed ∙ printed)
