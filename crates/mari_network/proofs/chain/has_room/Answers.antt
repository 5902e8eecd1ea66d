use Rattle.std.proofs.Common.{◌≡◌, ℕ, pos, ◌≤ℤ◌, sym, arith, subst, rules}
use Rattle.std.proofs.lemmas.Int.{ints}
use Rattle.mari_network.specs.Chain.{HasRoom, IsHop, hop_at, hop_room}
use Rattle.mari_network.specs.Chain.HasRoom.{begins, goes_on}
use Rattle.mari_network.proofs.Chains.{hop_has}
use Rattle.mari_network.proofs.chain.has_room.Goals as goal

pub loop-place-preserved : goal.loop-place-preserved
loop-place-preserved c =
    let hop : IsHop c.args.borders.now c.args.hops.now c.loop-place.place = c.requires.trace.each c.loop-place.place c.loop-place-test.true c.loop-place.invariant.there in
    let room : pos 1 ≤ℤ hop_room c.args.borders.now c.args.flows.now (hop_at c.args.hops.now c.loop-place.place) = search rules in
    record {
      there = omega (arith, hop.earlier);
      rest = λ r. c.loop-place.invariant.rest (goes_on c.loop-place.place c.loop-place-test.true room r);
      back = λ r. (hop_has c.args.borders.now c.args.flows.now c.args.hops.now (pos 1) c.loop-place.place c.loop-place-test.true (c.loop-place.invariant.back r)).rest;
    }

pub returns-clause-some : goal.returns-clause-some
returns-clause-some c =
    let start : c.loop-place.place ≡ 0 = omega arith in
    λ e. c.loop-place.invariant.rest (subst (λ (k : ℕ). HasRoom c.args.borders.now c.args.flows.now c.args.hops.now (pos 1) k) (sym start) begins)

pub returns-then-room_at-lt1-clause-none : goal.returns-then-room_at-lt1-clause-none
returns-then-room_at-lt1-clause-none c = λ e r.
    let on = hop_has c.args.borders.now c.args.flows.now c.args.hops.now (pos 1) c.loop-place.place c.loop-place-test.true (c.loop-place.invariant.back r) in
    absurd (omega (arith, ints, on.here, c.room_at.ensures))
