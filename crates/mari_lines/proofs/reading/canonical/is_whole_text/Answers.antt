use Rattle.std.proofs.Common.{◌≡◌, ◌∙◌, ◌++◌, ap, arith, int_lt, pos, to_z, of_z}
use mir.Syntax.{w128}
use Rattle.std.specs.Fmt.{decimal}
use Rattle.std.specs.Int.RustNames.{unsigned_abs}
use Rattle.std.proofs.lemmas.Int.{ints}
use Rattle.mari_units.specs.Numbers.{sign_of}
use Rattle.mari_lines.proofs.Canonical.{never, signed_parts}
use Rattle.mari_lines.proofs.reading.canonical.is_whole_text.Goals as goal

pub returns-in_default : goal.returns-in_default
returns-in_default c =
    let same : c.args.value ≡ to_z w128 (of_z w128 c.args.value) = omega (arith, ints) in
    let sign = ap (λ z. sign_of (int_lt z (pos 0)) ++ decimal (unsigned_abs c.args.value)) same in
    never (λ e. c.in_default.ensures _ (e ∙ signed_parts c.args.value ∙ sign))
