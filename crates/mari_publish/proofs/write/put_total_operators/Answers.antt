use Rattle.std.proofs.Common.{List, map, refl}
use Rattle.mari_lines.specs.declared.line.MoneyLine.{MoneyLine}
use Rattle.mari_lines.specs.declared.line.Line.TheVariants as line
use Rattle.mari_lines.specs.Ranges.{IsMoneyLine}
use Rattle.mari_lines.specs.Spelling.{line_text}
use Rattle.mari_publish.proofs.Parts.{one_put, all_put, at_place}
use Rattle.mari_publish.proofs.write.put_total_operators.Goals as goal

pub put_total_operator-requires : goal.put_total_operator-requires
put_total_operator-requires c = at_place IsMoneyLine c.args.operators.now c.loop-operator.operator-index c.operator-item.result c.loop-operator-test.true c.operator-item.is c.requires

pub loop-operator-preserved : goal.loop-operator-preserved
loop-operator-preserved c =
    one_put (λ (xs : List MoneyLine). map line.TotalOperator xs) (λ x. line_text (line.TotalOperator x)) (λ _ _. refl) c.args.operators.now
    c.loop-operator.operator-index c.operator-item.result c.loop-operator.out.items c.put_total_operator.new.out.items _
    c.loop-operator-test.true c.operator-item.is c.in_ok-put_total_operator.ensures c.loop-operator.invariant

pub returns : goal.returns
returns c =
    all_put (λ (xs : List MoneyLine). map line.TotalOperator xs) refl c.args.operators.now c.loop-operator.operator-index c.loop-operator.out.items _
    c.loop-operator-test.false c.loop-operator.invariant
