use Rattle.std.proofs.Common.{List, map, refl}
use Rattle.mari_lines.specs.declared.line.ZoneLine.{ZoneLine}
use Rattle.mari_lines.specs.declared.line.Line.TheVariants as line
use Rattle.mari_lines.specs.Spelling.{line_text}
use Rattle.mari_publish.proofs.Parts.{one_put, all_put}
use Rattle.mari_publish.proofs.write.put_zones.Goals as goal

pub loop-zone-preserved : goal.loop-zone-preserved
loop-zone-preserved c =
    one_put (λ (xs : List ZoneLine). map line.Zone xs) (λ x. line_text (line.Zone x)) (λ _ _. refl) c.args.zones.now c.loop-zone.zone-index
    c.zone-item.result c.loop-zone.out.items c.put_zone.new.out.items _
    c.loop-zone-test.true c.zone-item.is c.in_ok-put_zone.ensures c.loop-zone.invariant

pub returns : goal.returns
returns c = all_put (λ (xs : List ZoneLine). map line.Zone xs) refl c.args.zones.now c.loop-zone.zone-index c.loop-zone.out.items _ c.loop-zone-test.false c.loop-zone.invariant
