use Rattle.std.proofs.Common.{Vec, Global, List, sym, subst}
use Rattle.std.proofs.lemmas.List.Elements.{All-push}
use Rattle.std.specs.List.{All}
use Rattle.mari_network.specs.declared.network.Rung.{Rung}
use Rattle.mari_network.proofs.Lists.{zip_step}
use Rattle.mari_paths.specs.declared.curves.Curve.{Curve}
use Rattle.mari_paths.specs.Merit.{IsCurve, IsCurveOf}
use Rattle.mari_paths.proofs.merit.curves_of.Goals as goal

pub loop-ladder-preserved : goal.loop-ladder-preserved
loop-ladder-preserved c =
    let supply : IsCurveOf c.args.slots.now c.ladder-item.result.items c.in_ok-curve_of.field-0 =
    subst (λ (rs : List Rung). IsCurveOf c.args.slots.now rs c.in_ok-curve_of.field-0) c.as_slice.ensures.value c.in_ok-curve_of.ensures.supply in
    record {
      curves = subst (λ (xs : List Curve). All IsCurve xs) (sym {A = List Curve} c.in_ok-push.ensures.items)
          (All-push IsCurve c.loop-ladder.curves.items _ c.loop-ladder.invariant.curves c.in_ok-curve_of.ensures.curve);
      each =
          zip_step (λ (ladder : Vec Rung Global) (curve : Curve). IsCurveOf c.args.slots.now ladder.items curve) c.args.ladders.now c.loop-ladder.curves.items c.push.new.self.items
          c.loop-ladder.ladder-index c.ladder-item.result _ c.loop-ladder-test.true
          c.in_ok-push.ensures.items c.loop-ladder.invariant.each (subst (λ (v : Vec Rung Global). IsCurveOf c.args.slots.now v.items c.in_ok-curve_of.field-0) c.ladder-item.is supply);
    }
