use Rattle.std.proofs.Common.{◌≡◌, arith, sym, ap, ◌∙◌, subst, to_z, of_z}
use mir.Syntax.{w64}
use Rattle.std.specs.Fmt.{signed_decimal}
use Rattle.std.specs.Int.RustNames.{unsigned_abs}
use Rattle.std.proofs.lemmas.Fmt.{decimal_injective}
use Rattle.mari_units.specs.Numbers.{Within}
use Rattle.mari_lines.proofs.Signs.{passed_on, whole_parts, whole_of_parts, no_minus_zero}
use Rattle.mari_lines.proofs.reading.number.read_flow.Goals as goal

pub returns-in_default : goal.returns-in_default
returns-in_default c = λ z r e.
    let parts = whole_parts z _ _ c.args.text.now (omega (arith, r)) e c.split_sign-negative.ensures.parts c.split_sign-negative.ensures.unsigned in
    c.in_default.ensures (unsigned_abs z) r parts.1

pub returns-in-None : goal.returns-in-None
returns-in-None c = λ z r e.
    let parts = whole_parts z _ _ c.args.text.now (omega (arith, r)) e c.split_sign-negative.ensures.parts c.split_sign-negative.ensures.unsigned in
    let size = decimal_injective (unsigned_abs z) c.in-Some.mw (omega (arith, r)) (omega arith) (parts.1 ∙ sym c.in-Some.ensures.1) in
    no_minus_zero z (parts.0 ∙ c.in-None.ensures.0) (size ∙ c.in-None.ensures.1)

pub returns-in-Some-signed : goal.returns-in-Some-signed
returns-in-Some-signed c =
    let z = c.in-Some-signed.flow in
    let size = c.in-Some-signed.ensures.1 in
    let passed : to_z w64 (of_z w64 z) ≡ z = passed_on z (omega (arith, size, c.in-Some.ensures.0)) in
    let printed = whole_of_parts z _ c.in-Some.mw _ c.args.text.now c.in-Some-signed.ensures.0 size c.in-Some.ensures.1 c.split_sign-negative.ensures.parts in
    (subst (λ y. Within 199998 y) (sym passed) (omega (arith, size, c.in-Some.ensures.0)), ap signed_decimal passed ∙ printed)
