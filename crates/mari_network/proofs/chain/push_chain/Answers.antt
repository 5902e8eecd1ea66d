use Rattle.std.proofs.Common.{◌≡◌, ◌∙◌, ap, pos, get_or-set_other, ℤ, to_z, of_z, to_z-of_z, sym, w64, arith, subst, List}
use Rattle.mari_market.specs.Sums.{int_at}
use Rattle.mari_network.specs.Chain.{HasRoom, hop_at, IsHop}
use Rattle.mari_network.proofs.Chains.{hop_has, HopHas, room_stays, one_hop}
use Rattle.mari_network.proofs.chain.push_chain.Goals as goal

pub push_hop-requires-clause-room : goal.push_hop-requires-clause-room
push_hop-requires-clause-room c = (hop_has c.args.borders.now c.loop-place.flows c.args.hops.now _ c.loop-place.place c.loop-place-test.true c.loop-place.invariant.room).here

pub loop-place-preserved : goal.loop-place-preserved
loop-place-preserved c =
    let bs = c.args.borders.now in
    let hops = c.args.hops.now in
    let m = to_z-of_z c.ranges.most in
    let on : HopHas c.args.borders.now c.loop-place.flows c.args.hops.now (to_z w64 (of_z w64 c.args.most)) c.loop-place.place =
    hop_has c.args.borders.now c.loop-place.flows c.args.hops.now (to_z w64 (of_z w64 c.args.most)) c.loop-place.place c.loop-place-test.true c.loop-place.invariant.room in
    let hop : IsHop c.args.borders.now c.args.hops.now c.loop-place.place = c.requires.trace.each c.loop-place.place c.loop-place-test.true c.loop-place.invariant.there in
    record {
      there = omega (arith, hop.earlier);
      within = c.push_hop.ensures.within;
      room = subst (λ (fs : List ℤ). HasRoom c.args.borders.now fs c.args.hops.now (to_z w64 (of_z w64 c.args.most)) (hop_at c.args.hops.now c.loop-place.place).before) (sym c.push_hop.ensures.flows)
          (room_stays c.args.borders.now c.loop-place.flows c.args.hops.now (to_z w64 (of_z w64 c.args.most)) (hop_at c.args.hops.now c.loop-place.place).border _ c.loop-place.place
          (hop_at c.args.hops.now c.loop-place.place).before hop.earlier (omega (arith, c.loop-place.invariant.there)) c.requires.trace.each
          (λ j p l. c.requires.trace.apart j c.loop-place.place p l c.loop-place.invariant.there) on.rest);
      others = λ i none. ap (λ (fs : List ℤ). int_at fs i) c.push_hop.ensures.flows ∙ get_or-set_other c.loop-place.flows (hop_at c.args.hops.now c.loop-place.place).border i _ (pos 0)
          (λ e. none c.loop-place.place c.loop-place-test.true c.loop-place.invariant.there (sym e)) ∙ c.loop-place.invariant.others i none;
      carried =
          λ z. one_hop z c.args.borders.now c.args.hops.now c.loop-place.place c.args.at (to_z w64 (of_z w64 c.args.most)) _ _ _ hop (c.push_hop.ensures.carried z) (c.loop-place.invariant.carried z);
    }

pub returns-clause-carried : goal.returns-clause-carried
returns-clause-carried c = λ z.
    let start : c.loop-place.place ≡ 0 = omega arith in
    let all = c.loop-place.invariant.carried z in
    rw (start, to_z-of_z c.ranges.most) at all
