use Rattle.std.proofs.Common.{◌≡◌, ℕ, pos, to_z, sym, w64, arith, subst}
use Rattle.std.proofs.lemmas.Int.{ints, clamps}
use Rattle.mari_network.specs.Chain.{HasRoom, IsHop}
use Rattle.mari_network.specs.Chain.HasRoom.{begins, goes_on}
use Rattle.mari_network.proofs.Chains.{hop_has, HopHas}
use Rattle.mari_network.proofs.chain.room.Goals as goal

pub loop-place-preserved : goal.loop-place-preserved
loop-place-preserved c =
    let bs = c.args.borders.now in
    let fs = c.args.flows.now in
    let hops = c.args.hops.now in
    let k = c.loop-place.place in
    let on : HopHas c.args.borders.now c.args.flows.now c.args.hops.now (pos 1) c.loop-place.place =
    hop_has c.args.borders.now c.args.flows.now c.args.hops.now (pos 1) c.loop-place.place c.loop-place-test.true c.loop-place.invariant.has_some in
    let hop : IsHop c.args.borders.now c.args.hops.now c.loop-place.place = c.requires.trace.each c.loop-place.place c.loop-place-test.true c.loop-place.invariant.there in
    record {
      there = omega (arith, hop.earlier);
      some = omega (arith, ints, clamps, c.min-least.ensures, c.room_at.ensures, on.here);
      most = omega (arith, ints, clamps, c.min-least.ensures, c.room_at.ensures, on.here);
      has_some = on.rest;
      room = λ d l rest. c.loop-place.invariant.room d (omega (arith, ints, clamps, c.min-least.ensures))
          (goes_on c.loop-place.place c.loop-place-test.true (omega (arith, ints, clamps, c.min-least.ensures, c.room_at.ensures)) rest);
    }

pub returns-clause-room : goal.returns-clause-room
returns-clause-room c =
    let start : c.loop-place.place ≡ 0 = omega arith in
    c.loop-place.invariant.room (to_z w64 c.loop-place.least-bits) (omega (arith, ints))
    (subst (λ (k : ℕ). HasRoom c.args.borders.now c.args.flows.now c.args.hops.now (to_z w64 c.loop-place.least-bits) k) (sym start) begins)
