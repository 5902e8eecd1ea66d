use Rattle.std.proofs.Common.{◌≡◌, ◌+◌, ◌-◌, ◌<◌, ◌≤ℤ◌, ◌<ℤ◌, ℕ, ℤ, length, refl, sym, subst, arith, rules}
use Rattle.std.proofs.lemmas.Int.{ints}
use Rattle.mari_market.specs.Sums.{int_at}
use Rattle.mari_network.specs.Network.{rung_at, no_rung}
use Rattle.mari_network.specs.Slots.{slot_at}
use Rattle.mari_network.specs.Margins.{IsAbove, IsDearestRung}
use Rattle.mari_network.proofs.Rungs.{dearest_rung_skip, dearest_rung_take}
use Rattle.mari_network.proofs.Marginal.{some_same}
use Rattle.mari_network.proofs.ladders.dearest_rung.Goals as goal

pub loop-at-preserved-then-amounts-place : goal.loop-at-preserved-then-amounts-place
loop-at-preserved-then-amounts-place c =
    let at = c.loop-at.at - 1 in
    let place = (rung_at c.args.ladder.now (c.loop-at.at - 1)).place in
    let price = (rung_at c.args.ladder.now (c.loop-at.at - 1)).price in
    let there : c.loop-at.at - 1 < length c.args.ladder.now = omega (arith, c.requires.end, c.loop-at.invariant.at) in
    let less : (slot_at c.args.slots.now (rung_at c.args.ladder.now (c.loop-at.at - 1)).place).low <ℤ int_at c.args.amounts.now (rung_at c.args.ladder.now (c.loop-at.at - 1)).place = search rules in
    let low : (v : ℤ) → IsAbove c.args.slots.now v c.loop-at.best → v ≤ℤ (rung_at c.args.ladder.now (c.loop-at.at - 1)).price = search rules in
    let same : c.loop-at.at ≡ c.loop-at.at - 1 + 1 = omega arith in
    record {
      at = omega arith;
      there = λ i e. subst (λ (k : ℕ). k < length c.args.slots.now) (some_same place i e) (c.requires.there at no_rung there);
      dearest = dearest_rung_take c.args.slots.now c.args.amounts.now c.args.ladder.now at c.args.end place price c.loop-at.best (omega arith) refl refl (sym (c.requires.price at no_rung there))
          (c.requires.there at no_rung there, less) low
          (subst (λ (k : ℕ). IsDearestRung c.args.slots.now c.args.amounts.now c.args.ladder.now k c.args.end c.loop-at.best) same c.loop-at.invariant.dearest);
    }

pub loop-at-preserved : goal.loop-at-preserved
loop-at-preserved c =
    let at = c.loop-at.at - 1 in
    let cannot : int_at c.args.amounts.now (rung_at c.args.ladder.now (c.loop-at.at - 1)).place ≤ℤ (slot_at c.args.slots.now (rung_at c.args.ladder.now (c.loop-at.at - 1)).place).low = search rules in
    let same : c.loop-at.at ≡ c.loop-at.at - 1 + 1 = omega arith in
    record {
      at = omega arith;
      there = c.loop-at.invariant.there;
      dearest = dearest_rung_skip c.args.slots.now c.args.amounts.now c.args.ladder.now at c.args.end c.loop-at.best (λ can. absurd (omega (arith, ints, can.1, cannot)))
          (subst (λ (k : ℕ). IsDearestRung c.args.slots.now c.args.amounts.now c.args.ladder.now k c.args.end c.loop-at.best) same c.loop-at.invariant.dearest);
    }
