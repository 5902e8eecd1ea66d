use Rattle.std.proofs.Common.{◌≡◌, ◌*◌, ◌+◌, ◌<◌, ◌^◌, ℕ, ℤ, ◌+ℤ◌, arith, take, to_z, of_z, to_z-of_z, FitsSigned, w64, rules}
use Rattle.std.proofs.lemmas.Int.{ints}
use Rattle.std.proofs.lemmas.List.{take_all}
use Rattle.std.proofs.lemmas.Result.{IfOk-from_err}
use Rattle.mari_market.specs.Sums.{int_at}
use Rattle.mari_market.specs.Activation.{IsWithinLimits, carried_out}
use Rattle.mari_network.specs.Network.{no_border, border_at}
use Rattle.mari_network.proofs.Lists.{zip_step}
use Rattle.mari_paths.specs.Starts.{most_short, IsNear}
use Rattle.mari_paths.proofs.Shortages.{near_more, near_wider, carried_near, within_near}
use Rattle.mari_paths.proofs.start.flows_between.Goals as goal

-- a number near to 0 is read as it is
read_near : (most : ℕ) (x : ℤ) → most < 2 ^ 63 → IsNear most x → IsNear most (to_z w64 (of_z w64 x))
read_near most x few near =
    let fits : FitsSigned w64 x = omega (arith, ints, few, near.low, near.high) in
    rw (to_z-of_z fits) near

pub flow_between-flow-requires-clause-from : goal.flow_between-flow-requires-clause-from
flow_between-flow-requires-clause-from c =
    let from = (border_at c.args.borders.now c.loop-border.border-index).from in
    read_near most_short (int_at c.loop-border.short from) (omega arith)
    (near_wider (500000000 + 400000 * c.loop-border.border-index) most_short (int_at c.loop-border.short from) (c.loop-border.invariant.near from)
    (omega (arith, c.requires.few, c.loop-border-test.true)))

pub flow_between-flow-requires-clause-to : goal.flow_between-flow-requires-clause-to
flow_between-flow-requires-clause-to c =
    let to = (border_at c.args.borders.now c.loop-border.border-index).to in
    read_near most_short (int_at c.loop-border.short to) (omega arith)
    (near_wider (500000000 + 400000 * c.loop-border.border-index) most_short (int_at c.loop-border.short to) (c.loop-border.invariant.near to) (omega (arith, c.requires.few, c.loop-border-test.true)))

pub carry_out-requires-clause-near : goal.carry_out-requires-clause-near
carry_out-requires-clause-near c = λ z.
    near_wider (500000000 + 400000 * c.loop-border.border-index) most_short (int_at c.loop-border.short z) (c.loop-border.invariant.near z) (omega (arith, c.requires.few, c.loop-border-test.true))

pub carry_out-requires-clause-flow : goal.carry_out-requires-clause-flow
carry_out-requires-clause-flow c =
    let border = border_at c.args.borders.now c.loop-border.border-index in
    read_near 200000 c.flow_between-flow.result (omega arith)
    (within_near border c.flow_between-flow.result (c.requires.limits c.loop-border.border-index no_border c.loop-border-test.true) c.flow_between-flow.ensures)

pub returns-in_err-push : goal.returns-in_err-push
returns-in_err-push c = record { within = IfOk-from_err c.from_residual-in_err-push.result _ c.from_residual-in_err-push.ensures.0 }

pub returns : goal.returns
returns c =
    let all : take c.loop-border.border-index c.args.borders.now ≡ c.args.borders.now = take_all c.loop-border.border-index c.args.borders.now c.loop-border-test.false in
    record { within = rw all at c.loop-border.invariant.within }

pub loop-border-preserved : goal.loop-border-preserved
loop-border-preserved c =
    let border = border_at c.args.borders.now c.loop-border.border-index in
    let fits : FitsSigned w64 c.flow_between-flow.result = search rules in
    let within : IsWithinLimits (border_at c.args.borders.now c.loop-border.border-index) c.flow_between-flow.result = c.flow_between-flow.ensures in
    let small : IsNear 200000 c.flow_between-flow.result = within_near border c.flow_between-flow.result (c.requires.limits c.loop-border.border-index no_border c.loop-border-test.true) within in
    let more : (z : ℕ) → int_at c.carry_out.new.short z ≡ int_at c.loop-border.short z +ℤ carried_out z (border_at c.args.borders.now c.loop-border.border-index) c.flow_between-flow.result =
    λ z. rw (to_z-of_z fits) at c.carry_out.ensures.each z in
    record {
      long = omega (arith, c.carry_out.ensures.long, c.loop-border.invariant.long);
      near = λ z.
          near_more (500000000 + 400000 * c.loop-border.border-index) 400000 (500000000 + 400000 * (c.loop-border.border-index + 1)) (int_at c.loop-border.short z)
          (carried_out z border c.flow_between-flow.result) (int_at c.carry_out.new.short z)
          (c.loop-border.invariant.near z) (carried_near z border c.flow_between-flow.result small) (more z) (omega arith);
      within =
          zip_step IsWithinLimits c.args.borders.now c.loop-border.flows.items c.push.new.self.items c.loop-border.border-index no_border _ c.loop-border-test.true
          c.in_ok-push.ensures.items c.loop-border.invariant.within (rw (to_z-of_z fits) within);
    }
