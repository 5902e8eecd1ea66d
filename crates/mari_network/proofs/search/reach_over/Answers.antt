use Rattle.std.proofs.Common.{◌≡◌, ◌<◌, true, false, pos, ◌<ℤ◌, to_z-of_z, sym, rules, FitsSigned, w64, arith, set, subst, List, length, ◌++◌, ◌∷◌, []}
use Rattle.std.proofs.lemmas.Int.{ints}
use Rattle.mari_market.specs.Activation.{IsWithinLimits}
use Rattle.mari_network.specs.declared.chain.Hop.{Hop}
use Rattle.mari_market.specs.Sums.{int_at}
use Rattle.mari_network.specs.Network.{no_border, border_at}
use Rattle.mari_network.specs.Chain.{room_of}
use Rattle.mari_network.specs.Spread.{IsSpread, is_marked}
use Rattle.mari_network.proofs.Spread.{spread_more}
use Rattle.mari_network.proofs.search.reach_over.Goals as goal
use Rattle.mari_market.proofs.Sums.{AllZip-at}

pub room_over-requires : goal.room_over-requires
room_over-requires c =
    let fits : FitsSigned w64 (int_at c.args.flows.now c.args.crossing.border) = search rules in
    rw to_z-of_z (AllZip-at IsWithinLimits c.args.borders.now c.args.flows.now c.args.crossing.border no_border (pos 0) c.requires.crossing.there c.requires.limits)

pub returns-clause-spread : goal.returns-clause-spread
returns-clause-spread c = λ old start s.
    let h : Hop = record { zone = c.args.crossing.from; border = c.args.crossing.border; forth = c.args.crossing.forth; before = c.args.before } in
    let items : c.push.new.self.items ≡ c.args.hops.now.items ++ h ∷ [] = c.in_ok-push.ensures.items in
    let fits : FitsSigned w64 (int_at c.args.flows.now c.args.crossing.border) = search rules in
    let value : c.room_over.result ≡ room_of c.args.crossing.forth (border_at c.args.borders.now c.args.crossing.border) (int_at c.args.flows.now c.args.crossing.border) =
    rw (to_z-of_z fits) at c.room_over.ensures.value in
    let some : pos 0 <ℤ c.room_over.result = search rules in
    let fresh : is_marked c.args.marked.now c.args.crossing.from ≡ false = search rules in
    let long : c.args.crossing.from < length c.args.marked.now = search rules in
    subst (λ (hops : List Hop). IsSpread c.args.borders.now c.args.flows.now old start (set c.args.marked.now c.args.crossing.from true) hops) (sym items)
    (spread_more c.args.borders.now c.args.flows.now old start c.args.marked.now c.args.hops.now.items h s (record {
      at = c.requires.before;
      there = c.requires.crossing.there;
      tail = c.requires.crossing.from;
      head = sym c.requires.crossing.to;
      room = omega (arith, ints, value, some);
      fresh = fresh;
      long = long;
    }))
