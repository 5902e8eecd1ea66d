use Rattle.std.proofs.Common.{◌≡◌, ◌<◌, ◌∙◌, ℕ, ℤ, ◌+ℤ◌, length, arith, ap, rules, to_z, of_z, to_z-of_z, FitsSigned, w64}
use Rattle.std.proofs.lemmas.Int.{ints}
use Rattle.mari_market.specs.Price.{price_at}
use Rattle.mari_market.specs.Sums.{int_sum}
use Rattle.mari_proofs.specs.Tables.{level_of, sum_below}
use Rattle.mari_proofs.proofs.Ladders.{below_step}
use Rattle.mari_reach.specs.Ladders.{gain_at, level_at, rung_of, up_to}
use Rattle.mari_reach.proofs.Offers.{all_zones}
use Rattle.mari_reach.proofs.ladders.Ladder.gain.Goals as goal

pub loop-zone-preserved : goal.loop-zone-preserved
loop-zone-preserved c =
    let side = c.args.side in
    let ps = c.args.potentials.now in
    let levels = c.args.levels.now in
    let xs = c.args.self.now.offers.items in
    let zone = c.loop-zone.zone in
    let at_fits : FitsSigned w64 c.at.result = search rules in
    let level_fits : FitsSigned w64 c.rung_of-level.result = search rules in
    let price_fits : FitsSigned w64 c.price_on.result = search rules in
    let level = to_z-of_z level_fits ∙ c.rung_of-level.ensures.value ∙ ap (rung_of side) (to_z-of_z at_fits ∙ c.at.ensures) in
    let price = to_z-of_z price_fits ∙ c.price_on.ensures.value ∙ ap (level_of side) c.potential_at.ensures.value in
    let few : zone < 64 = omega (arith, c.loop-zone-test.true, c.requires.one_each, c.requires.ladder.few_zones) in
    let new : to_z w64 (of_z w64 (to_z w64 c.loop-zone.total-bits +ℤ to_z w64 (of_z w64 c.gain_at-total.result))) ≡ to_z w64 c.loop-zone.total-bits +ℤ c.gain_at-total.result =
    omega (arith, ints, few, c.loop-zone.invariant.low, c.loop-zone.invariant.high, c.gain_at-total.ensures.low, c.gain_at-total.ensures.high) in
    record {
      sum = below_step (λ (z : ℕ). int_sum (up_to (gain_at (level_of side (price_at ps z))) z (rung_of side (level_at levels side z))) xs) zone
          (to_z w64 c.loop-zone.total-bits) c.gain_at-total.result _
          c.loop-zone.invariant.sum
          (c.gain_at-total.ensures.value
          ∙ ap (λ (x : ℤ). int_sum (up_to (gain_at (to_z w64 (of_z w64 c.price_on.result))) zone x) xs) level
          ∙ ap (λ (x : ℤ). int_sum (up_to (gain_at x) zone (rung_of side (level_at levels side zone))) xs) price)
          new;
      low = omega (arith, ints, new, c.loop-zone.invariant.low, c.gain_at-total.ensures.low);
      high = omega (arith, ints, new, c.loop-zone.invariant.high, c.gain_at-total.ensures.high);
    }

pub returns-clause-value : goal.returns-clause-value
returns-clause-value c =
    let side = c.args.side in
    let ps = c.args.potentials.now in
    let levels = c.args.levels.now in
    let xs = c.args.self.now.offers.items in
    let zones = length c.args.self.now.starts.items in
    let end : c.loop-zone.zone ≡ zones = omega (arith, c.loop-zone-test.false, c.loop-zone.auto.zone-end, c.requires.one_each, c.requires.ladder.few_zones) in
    c.loop-zone.invariant.sum
    ∙ ap (sum_below (λ (z : ℕ). int_sum (up_to (gain_at (level_of side (price_at ps z))) z (rung_of side (level_at levels side z))) xs)) end
    ∙ all_zones (λ (z : ℕ). gain_at (level_of side (price_at ps z))) (λ (z : ℕ). rung_of side (level_at levels side z)) zones xs c.requires.ladder.offers
