use Rattle.std.proofs.Common.{List, map, refl}
use Rattle.mari_lines.specs.declared.line.AmountLine.{AmountLine}
use Rattle.mari_lines.specs.declared.line.Line.TheVariants as line
use Rattle.mari_lines.specs.Ranges.{IsAmountLine}
use Rattle.mari_lines.specs.Spelling.{line_text}
use Rattle.mari_publish.proofs.Parts.{one_put, all_put, at_place}
use Rattle.mari_publish.proofs.write.put_total_providers.Goals as goal

pub put_total_provider-requires : goal.put_total_provider-requires
put_total_provider-requires c = at_place IsAmountLine c.args.providers.now c.loop-provider.provider-index c.provider-item.result c.loop-provider-test.true c.provider-item.is c.requires

pub loop-provider-preserved : goal.loop-provider-preserved
loop-provider-preserved c =
    one_put (λ (xs : List AmountLine). map line.TotalProvider xs) (λ x. line_text (line.TotalProvider x)) (λ _ _. refl) c.args.providers.now
    c.loop-provider.provider-index c.provider-item.result c.loop-provider.out.items c.put_total_provider.new.out.items _
    c.loop-provider-test.true c.provider-item.is c.in_ok-put_total_provider.ensures c.loop-provider.invariant

pub returns : goal.returns
returns c =
    all_put (λ (xs : List AmountLine). map line.TotalProvider xs) refl c.args.providers.now c.loop-provider.provider-index c.loop-provider.out.items _
    c.loop-provider-test.false c.loop-provider.invariant
