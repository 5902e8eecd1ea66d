use Rattle.std.proofs.Common.{◌∙◌, List, arith, ap, sym, subst, to_z, of_z, to_z-of_z, FitsSigned, w64, rules}
use Rattle.mari_network.specs.declared.network.Rung.{Rung}
use Rattle.mari_paths.specs.Warm.{IsOrderLadder}
use Rattle.mari_prices.specs.declared.bounds.End.TheVariants.{Least, Greatest}
use Rattle.mari_node.proofs.Plain.{bounds_push}
use Rattle.mari_node.proofs.bounds.plain_bounds.Goals as goal

pub plain_ends-lower-requires-clause-ladder : goal.plain_ends-lower-requires-clause-ladder
plain_ends-lower-requires-clause-ladder c =
    subst (λ (ladder : List Rung). IsOrderLadder c.args.market.now c.loop-zone.zone ladder) (sym (c.as_slice-ladder.ensures.value ∙ ap (λ v. v.items) c.index.ensures))
    (c.requires.ladders.each c.loop-zone.zone c.index.result.now c.loop-zone-test.true)

pub loop-zone-preserved : goal.loop-zone-preserved
loop-zone-preserved c =
    let m = c.args.market.now in
    let o = c.args.optimum.now in
    let z = c.loop-zone.zone in
    let before = c.loop-zone.invariant in
    let lows = c.loop-zone.least.items in
    let highs = c.loop-zone.greatest.items in
    let low_fits : FitsSigned w64 c.plain_ends-lower.result.0 = search rules in
    let high_fits : FitsSigned w64 c.plain_ends-lower.result.1 = search rules in
    record {
      lows = omega (arith, c.in_ok-push.ensures.len, before.lows);
      highs = omega (arith, c.in_ok-push-2.ensures.len, before.highs);
      least = bounds_push Least m o z lows c.push.new.self.items (to_z w64 (of_z w64 c.plain_ends-lower.result.0)) c.plain_ends-lower.result.0 before.lows c.in_ok-push.ensures.items
          (to_z-of_z low_fits) before.least c.plain_ends-lower.ensures.least;
      greatest = bounds_push Greatest m o z highs c.push-in-loop-zone.new.self.items (to_z w64 (of_z w64 c.plain_ends-lower.result.1)) c.plain_ends-lower.result.1 before.highs
          c.in_ok-push-2.ensures.items (to_z-of_z high_fits) before.greatest c.plain_ends-lower.ensures.greatest;
    }
