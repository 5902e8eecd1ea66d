use Rattle.std.proofs.Common.{List, map, refl}
use Rattle.mari_lines.specs.declared.line.BorderLine.{BorderLine}
use Rattle.mari_lines.specs.declared.line.Line.TheVariants as line
use Rattle.mari_lines.specs.Ranges.{IsMoney}
use Rattle.mari_lines.specs.Spelling.{line_text}
use Rattle.mari_publish.proofs.Parts.{one_put, all_put, at_place}
use Rattle.mari_publish.proofs.write.put_borders.Goals as goal

pub put_border-requires : goal.put_border-requires
put_border-requires c = at_place (λ b. IsMoney b.rent) c.args.borders.now c.loop-border.border-index c.border-item.result c.loop-border-test.true c.border-item.is c.requires

pub loop-border-preserved : goal.loop-border-preserved
loop-border-preserved c =
    one_put (λ (xs : List BorderLine). map line.Border xs) (λ x. line_text (line.Border x)) (λ _ _. refl) c.args.borders.now
    c.loop-border.border-index c.border-item.result c.loop-border.out.items c.put_border.new.out.items _
    c.loop-border-test.true c.border-item.is c.in_ok-put_border.ensures c.loop-border.invariant

pub returns : goal.returns
returns c = all_put (λ (xs : List BorderLine). map line.Border xs) refl c.args.borders.now c.loop-border.border-index c.loop-border.out.items _ c.loop-border-test.false c.loop-border.invariant
