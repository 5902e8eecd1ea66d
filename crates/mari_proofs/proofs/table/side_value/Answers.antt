use Rattle.std.proofs.Common.{◌≡◌, ◌<◌, ℕ, ℤ, pos, ◌+ℤ◌, List, Vec, Global, length, arith, ap, sym, subst, ◌∙◌, rules, to_z, of_z, to_z-of_z, FitsSigned, w64}
use Rattle.std.proofs.lemmas.Int.{ints}
use Rattle.mari_market.specs.Price.{price_at}
use Rattle.mari_proofs.specs.declared.table.Rung.{Rung}
use Rattle.mari_proofs.specs.Tables.{gain_from, ladder_at, level_of, IsLadder}
use Rattle.mari_proofs.proofs.Ladders.{below_step, ladder_read}
use Rattle.mari_proofs.proofs.table.side_value.Goals as goal

pub ladder_gain-total-requires-clause-ladder : goal.ladder_gain-total-requires-clause-ladder
ladder_gain-total-requires-clause-ladder c =
    let there : c.loop-zone.zone < length c.args.ladders.now = omega (arith, c.loop-zone-test.true, c.requires.ladders.one_each) in
    let read = c.as_slice-ladder.ensures.value ∙ ap (λ (v : Vec Rung Global). v.items) c.index-ladders-zone.is ∙ ladder_read c.args.ladders.now c.loop-zone.zone c.index-ladders-zone.result there in
    subst IsLadder (sym read) (c.requires.ladders.each c.loop-zone.zone c.loop-zone-test.true)

pub loop-zone-preserved : goal.loop-zone-preserved
loop-zone-preserved c =
    let level_fits : FitsSigned w64 c.level_at.result = search rules in
    let there : c.loop-zone.zone < length c.args.ladders.now = omega (arith, c.loop-zone-test.true, c.requires.ladders.one_each) in
    let read = c.as_slice-ladder.ensures.value ∙ ap (λ (v : Vec Rung Global). v.items) c.index-ladders-zone.is ∙ ladder_read c.args.ladders.now c.loop-zone.zone c.index-ladders-zone.result there in
    let few : c.loop-zone.zone < 64 = omega (arith, c.loop-zone-test.true, c.requires.market.zones.1) in
    let new : to_z w64 (of_z w64 (to_z w64 c.loop-zone.total-bits +ℤ to_z w64 (of_z w64 c.ladder_gain-total.result))) ≡ to_z w64 c.loop-zone.total-bits +ℤ c.ladder_gain-total.result =
    omega (arith, ints, few, c.loop-zone.invariant.low, c.loop-zone.invariant.high, c.ladder_gain-total.ensures.low, c.ladder_gain-total.ensures.high) in
    record {
      sum = below_step (λ (z : ℕ). gain_from (level_of c.args.side (price_at c.args.potentials.now z)) (pos 0) (ladder_at c.args.ladders.now z)) c.loop-zone.zone
          (to_z w64 c.loop-zone.total-bits) c.ladder_gain-total.result _
          c.loop-zone.invariant.sum
          (c.ladder_gain-total.ensures.value
          ∙ ap (λ (x : ℤ). gain_from x (pos 0) c.as_slice-ladder.result.now) (to_z-of_z level_fits ∙ c.level_at.ensures.value)
          ∙ ap (λ (rs : List Rung). gain_from (level_of c.args.side (price_at c.args.potentials.now c.loop-zone.zone)) (pos 0) rs) read)
          new;
      low = omega (arith, ints, new, c.loop-zone.invariant.low, c.ladder_gain-total.ensures.low);
      high = omega (arith, ints, new, c.loop-zone.invariant.high, c.ladder_gain-total.ensures.high);
    }
