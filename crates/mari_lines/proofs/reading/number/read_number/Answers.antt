use Rattle.std.proofs.Common.{sym, ◌∙◌, arith}
use Rattle.std.proofs.lemmas.Fmt.{decimal_injective}
use Rattle.mari_lines.proofs.reading.number.read_number.Goals as goal

pub returns-then-number-least : goal.returns-then-number-least
returns-then-number-least c = λ n r e.
    let same = decimal_injective n c.in-Some.number (omega arith) (omega arith) (e ∙ sym c.in-Some.ensures.1) in
    omega (arith, same, r.0, c.if-number-least.true)
