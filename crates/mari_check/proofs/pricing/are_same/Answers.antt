use Rattle.std.proofs.Common.{arith, refl, pos}
use Rattle.mari_units.specs.declared.numbers.Cents.{Cents}
use Rattle.mari_market.proofs.Lists.{passes_more}
use Rattle.mari_check.specs.Lines.{IsSamePrice}
use Rattle.mari_check.proofs.Zips.{uneven}
use Rattle.mari_check.proofs.pricing.are_same.Goals as goal

abbrev none : Cents
none = record { 0 = pos 0 }

pub returns-then-prices-others : goal.returns-then-prices-others
returns-then-prices-others c = uneven IsSamePrice c.args.prices.now c.args.others.now (λ e. omega (arith, e, c.if-prices-others.true))

pub loop-zone-preserved : goal.loop-zone-preserved
loop-zone-preserved c =
    passes_more IsSamePrice c.args.prices.now c.args.others.now c.loop-zone.zone none none _ c.is_same.result c.loop-zone-test.true
    (omega (arith, c.if-prices-others.false)) refl c.is_same.ensures c.if-not-is_same.false c.loop-zone.invariant
