use Rattle.std.proofs.Common.{◌≡◌, ◌*◌, ◌+◌, ℤ, ◌+ℤ◌, arith, refl, ap, ◌∙◌, subst, sym, to_z, of_z, w64}
use Rattle.std.proofs.lemmas.Int.{ints}
use Rattle.mari_market.proofs.Sums.{sum_step}
use Rattle.mari_paths.specs.declared.curves.Curve.{Curve}
use Rattle.mari_paths.specs.Merit.{supplied}
use Rattle.mari_paths.specs.Starts.{IsNear}
use Rattle.mari_paths.proofs.Shortages.{near_more}
use Rattle.mari_paths.proofs.curves.total_at.Goals as goal

pub loop-curve-preserved : goal.loop-curve-preserved
loop-curve-preserved c =
    let near : IsNear (2000000000 * (c.loop-curve.curve-index + 1)) (to_z w64 c.loop-curve.total-bits +ℤ c.supply_at-total.result) =
    near_more (2000000000 * c.loop-curve.curve-index) 2000000000 (2000000000 * (c.loop-curve.curve-index + 1))
    (to_z w64 c.loop-curve.total-bits) c.supply_at-total.result _ c.loop-curve.invariant.near c.supply_at-total.ensures.near refl (omega arith) in
    let new : to_z w64 (of_z w64 (to_z w64 c.loop-curve.total-bits +ℤ to_z w64 (of_z w64 c.supply_at-total.result))) ≡ to_z w64 c.loop-curve.total-bits +ℤ c.supply_at-total.result =
    omega (arith, ints, near.low, near.high, c.supply_at-total.ensures.near.low, c.supply_at-total.ensures.near.high, c.requires.few, c.loop-curve-test.true) in
    record {
      near = subst (λ (x : ℤ). IsNear (2000000000 * (c.loop-curve.curve-index + 1)) x) (sym new) near;
      total = sum_step (supplied (to_z w64 (of_z w64 c.args.price))) c.args.curves.now c.loop-curve.curve-index c.curve-item.result
          (to_z w64 c.loop-curve.total-bits) c.supply_at-total.result _ c.loop-curve-test.true
          c.loop-curve.invariant.total (c.supply_at-total.ensures.supply ∙ ap (λ (k : Curve). supplied (to_z w64 (of_z w64 c.args.price)) k) c.curve-item.is) new;
    }
