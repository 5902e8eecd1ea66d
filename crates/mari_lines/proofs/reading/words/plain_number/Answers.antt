use Rattle.std.proofs.Common.{List, ℕ, eqb, ap, ◌∙◌, arith}
use Rattle.std.specs.List.{slice_split}
use Rattle.std.specs.Fmt.{decimal}
use Rattle.mari_lines.proofs.Graphic.{graphic_decimal, lacks_space}
use Rattle.mari_lines.proofs.reading.words.plain_number.Goals as goal

pub returns : goal.returns
returns c =
    let n = c.in_ok-number.number in
    let first = c.in_ok-number.ensures in
    let rest = c.in_ok-rest.ensures (decimal n) (lacks_space (decimal n) (graphic_decimal n (omega arith))) in
    (first.0, ap (λ (bs : List ℕ). slice_split (λ b. eqb b 32) bs) first.1 ∙ rest)
