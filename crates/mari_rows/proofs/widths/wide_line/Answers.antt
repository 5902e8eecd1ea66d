use Rattle.std.proofs.Common.{◌==◌, ◌<◌, ◌∙◌, arith, sym}
use Rattle.std.specs.List.{count_by}
use Rattle.std.proofs.lemmas.Bool.{ltb-true}
use Rattle.std.proofs.lemmas.List.Sums.{count_by-le-length}
use Rattle.mari_rows.proofs.WalkLemmas.{none-wide}
use Rattle.mari_rows.proofs.widths.wide_line.Goals.{then-text-most, else-text-most}
use Rattle.mari_rows.proofs.widths.wide_line.Goals as goal

pub returns-then-commas_in-most : goal.returns-then-commas_in-most
returns-then-commas_in-most c =
    let text = c.without_mark-text.result.now in
    let most = c.max-most.result in
    let few : count_by (λ b. b == 44) text < most = elim c.if-text-most.branch [
      | then-text-most w ↦ omega (arith, w.if-text-most.true, count_by-le-length (λ b. b == 44) text)
      | else-text-most w ↦
          omega (arith, ltb-true w.commas_in.result most (sym w.value-is ∙ c.if-commas_in-most.true), w.commas_in.ensures)
    ] in
    let none = none-wide most text few in
    let larger = c.max-most.ensures in
    cc
