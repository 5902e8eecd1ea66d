use Rattle.std.proofs.Common.{arith, refl, pos}
use Rattle.mari_units.specs.declared.numbers.Cents.{Cents}
use Rattle.mari_market.proofs.Lists.{fails_at, passes_more}
use Rattle.mari_check.specs.Ends.{IsKept}
use Rattle.mari_check.proofs.ends.are_kept.Goals as goal

abbrev none : Cents
none = record { 0 = pos 0 }

pub loop-zone-preserved : goal.loop-zone-preserved
loop-zone-preserved c =
    passes_more (IsKept c.args.end) c.args.prices.now c.args.bounds.now c.loop-zone.zone none 0 _ c.is_kept_by.result c.loop-zone-test.true
    (omega (arith, c.requires.lengths)) refl c.is_kept_by.ensures c.if-not-is_kept_by.false c.loop-zone.invariant

pub returns-then-not-is_kept_by : goal.returns-then-not-is_kept_by
returns-then-not-is_kept_by c =
    fails_at (IsKept c.args.end) c.args.prices.now c.args.bounds.now c.loop-zone.zone none 0 _ c.is_kept_by.result c.loop-zone-test.true
    refl c.is_kept_by.ensures c.if-not-is_kept_by.true
