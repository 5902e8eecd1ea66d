use Rattle.std.proofs.Common.{◌∙◌, ℤ, ap}
use Rattle.mari_market.specs.Price.{price_at}
use Rattle.mari_market.specs.Sums.{int_at}
use Rattle.mari_reach.specs.Values.{inject_below, withdraw_above}
use Rattle.mari_reach.proofs.ByLevel.{set_more}
use Rattle.mari_reach.proofs.levels.Levels.of.Goals as goal

pub loop-zone-preserved : goal.loop-zone-preserved
loop-zone-preserved c =
    let box = c.args.state.now.prices in
    let ps = c.args.potentials.now in
    let zone = c.loop-zone.zone in
    record {
      injects = set_more (λ z. inject_below (price_at ps z) (int_at box.low z) (int_at box.high z)) (int_at c.loop-zone.levels.injects) (int_at c.set.new.self.injects) zone
          c.loop-zone.invariant.injects (c.set.ensures.injects ∙ ap (λ (p : ℤ). inject_below p (int_at box.low zone) (int_at box.high zone)) c.potential_at.ensures.value) c.set.ensures.other_injects;
      withdraws = set_more (λ z. withdraw_above (price_at ps z) (int_at box.low z) (int_at box.high z)) (int_at c.loop-zone.levels.withdraws) (int_at c.set.new.self.withdraws) zone
          c.loop-zone.invariant.withdraws (c.set.ensures.withdraws ∙ ap (λ (p : ℤ). withdraw_above p (int_at box.low zone) (int_at box.high zone)) c.potential_at.ensures.value)
          c.set.ensures.other_withdraws;
    }
