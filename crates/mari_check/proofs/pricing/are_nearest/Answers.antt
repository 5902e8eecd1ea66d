use Rattle.std.proofs.Common.{refl}
use Rattle.mari_check.specs.Lines.{IsNearestLine}
use Rattle.mari_check.proofs.Zips.{all-more, all-whole}
use Rattle.mari_check.proofs.pricing.are_nearest.Goals as goal

pub loop-line-preserved : goal.loop-line-preserved
loop-line-preserved c =
    all-more (IsNearestLine c.args.reference) c.args.lines.now c.loop-line.line-index c.line-item.result c.loop-line-test.true c.line-item.is
    (c.is_nearest.ensures.0 c.if-not-is_nearest.false) c.loop-line.invariant

pub returns : goal.returns
returns c = (λ t. all-whole (IsNearestLine c.args.reference) c.args.lines.now c.loop-line.line-index c.loop-line-test.false c.loop-line.invariant, λ all. refl)
