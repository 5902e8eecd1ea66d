use Rattle.std.proofs.Common.{◌≡◌, ◌-◌, ◌+◌, arith, below_more, refl, subst}
use Rattle.mari_market.specs.Area.{HasBefore}
use Rattle.mari_check.proofs.areas.is_numbered.Goals as goal

pub loop-below-preserved : goal.loop-below-preserved
loop-below-preserved c = below_more _ _ c.loop-below.invariant (c.has_before.ensures.0 c.if-not-has_before.false)

pub returns : goal.returns
returns c = (
  λ t. record {
    from_one = omega (arith, c.if-areas-zone-eq0.false);
    by_first = λ number one up.
        let back : (number - 1) + 1 ≡ number = omega arith in
        subst (HasBefore c.args.areas.now c.args.zone) back (c.loop-below.invariant (number - 1) (omega (arith, c.loop-below-test.false)));
  },
  λ n. refl,
)
