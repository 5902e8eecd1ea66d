use Rattle.std.proofs.Common.{◌≡◌, ◌<◌, ◌*◌, ◌+◌, ℕ, ℤ, pos, List, ◌+ℤ◌, ap, ◌∙◌, arith, take, length, to_z-of_z, FitsSigned, w64, rules}
use Rattle.std.proofs.lemmas.Int.{ints}
use Rattle.std.proofs.lemmas.List.{take_all}
use Rattle.mari_market.specs.declared.market.Border.{Border}
use Rattle.mari_market.specs.Sums.{sum_along, int_at}
use Rattle.mari_market.specs.Activation.{IsWithinLimits, carried_out}
use Rattle.mari_market.proofs.Sums.{sum_along_more}
use Rattle.mari_network.specs.Network.{no_border, border_at}
use Rattle.mari_network.proofs.Lists.{zip_long}
use Rattle.mari_paths.proofs.Shortages.{near_more, carried_near, small_flow}
use Rattle.mari_paths.proofs.start.add_flows.Goals as goal

pub bounds-flows-i : goal.bounds-flows-i
bounds-flows-i c = omega (arith, zip_long IsWithinLimits c.args.borders.now c.args.flows.now c.requires.within, c.loop-i-test.true)

pub carry_out-requires-clause-flow : goal.carry_out-requires-clause-flow
carry_out-requires-clause-flow c =
    let fits : FitsSigned w64 (int_at c.args.flows.now c.loop-i.i) = search rules in
    rw (to_z-of_z fits) (small_flow c.args.borders.now c.args.flows.now c.loop-i.i c.requires.limits c.requires.within c.loop-i-test.true)

pub loop-i-preserved : goal.loop-i-preserved
loop-i-preserved c =
    let fits : FitsSigned w64 (int_at c.args.flows.now c.loop-i.i) = search rules in
    let more : (z : ℕ) → int_at c.carry_out.new.short z ≡ int_at c.loop-i.short z +ℤ carried_out z (border_at c.args.borders.now c.loop-i.i) (int_at c.args.flows.now c.loop-i.i) =
    λ z. rw (to_z-of_z fits) at c.carry_out.ensures.each z in
    let long : c.loop-i.i < length c.args.flows.now = omega (arith, zip_long IsWithinLimits c.args.borders.now c.args.flows.now c.requires.within, c.loop-i-test.true) in
    record {
      long = omega (arith, c.carry_out.ensures.long, c.loop-i.invariant.long);
      near = λ z.
          near_more (500000000 + 400000 * c.loop-i.i) 400000 (500000000 + 400000 * (c.loop-i.i + 1)) (int_at c.loop-i.short z)
          (carried_out z (border_at c.args.borders.now c.loop-i.i) (int_at c.args.flows.now c.loop-i.i)) (int_at c.carry_out.new.short z)
          (c.loop-i.invariant.near z)
          (carried_near z (border_at c.args.borders.now c.loop-i.i) (int_at c.args.flows.now c.loop-i.i)
          (small_flow c.args.borders.now c.args.flows.now c.loop-i.i c.requires.limits c.requires.within c.loop-i-test.true)) (more z) (omega arith);
      each = λ z. omega (arith, ints, more z, c.loop-i.invariant.each z, sum_along_more (carried_out z) c.args.borders.now c.args.flows.now c.loop-i.i no_border (pos 0) c.loop-i-test.true long);
    }

pub returns-clause-each : goal.returns-clause-each
returns-clause-each c = λ z.
    let long = zip_long IsWithinLimits c.args.borders.now c.args.flows.now c.requires.within in
    let borders : take c.loop-i.i c.args.borders.now ≡ c.args.borders.now = take_all c.loop-i.i c.args.borders.now c.loop-i-test.false in
    let flows : take c.loop-i.i c.args.flows.now ≡ c.args.flows.now = take_all c.loop-i.i c.args.flows.now (omega (arith, long, c.loop-i-test.false)) in
    c.loop-i.invariant.each z ∙ ap
    (λ (bs : List Border). int_at c.args.short.now z +ℤ sum_along (carried_out z) bs (take c.loop-i.i c.args.flows.now)) borders ∙ ap
    (λ (fs : List ℤ). int_at c.args.short.now z +ℤ sum_along (carried_out z) c.args.borders.now fs) flows
