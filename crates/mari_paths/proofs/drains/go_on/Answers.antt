use Rattle.std.proofs.Common.{◌≡◌, List, arith, subst, pos}
use Rattle.mari_network.specs.declared.chain.Hop.{Hop}
use Rattle.mari_network.specs.Chain.{hop_at, HasRoom}
use Rattle.mari_paths.specs.Drains.{AreEnds}
use Rattle.mari_paths.proofs.drains.go_on.Goals as goal

pub next_ends-requires-clause-dearest : goal.next_ends-requires-clause-dearest
next_ends-requires-clause-dearest c = λ z i l e. ((c.requires.margins.dearest z (omega (arith, c.requires.margins.long))).one i e).0.0

pub next_ends-requires-clause-cheapest : goal.next_ends-requires-clause-cheapest
next_ends-requires-clause-cheapest c = λ z i l e. ((c.requires.margins.cheapest z (omega (arith, c.requires.margins.long))).one i e).0.0

pub returns-in-Some-clause-improving : goal.returns-in-Some-clause-improving
returns-in-Some-clause-improving c = λ _.
    let hops : c.deref.result.now ≡ c.args.chain.now.hops.items = c.deref.ensures.value in
    let ends : AreEnds c.args.network.now.slots.now c.args.margins.now c.args.chain.now.hops.items c.in-Some.ends.sink c.in-Some.ends =
    subst (λ (hs : List Hop). AreEnds c.args.network.now.slots.now c.args.margins.now hs c.in-Some.ends.sink c.in-Some.ends) hops c.in-Some.ensures.ends in
    let room : HasRoom c.args.network.now.borders.now c.args.flows.now c.args.chain.now.hops.items (pos 1) c.in-Some.ends.at =
    subst (λ (hs : List Hop). HasRoom c.args.network.now.borders.now c.args.flows.now hs (pos 1) c.in-Some.ends.at) hops c.in-Some.ensures.room in
    let sink = rw hops at c.in-Some.ensures.sink in
    let low = (c.requires.margins.dearest (hop_at c.args.chain.now.hops.items 0).zone (c.requires.hops.within 0 c.requires.hops.some)).one c.in-Some.ends.sink sink in
    let high = (c.requires.margins.cheapest (hop_at c.args.chain.now.hops.items c.in-Some.ends.at).zone (c.requires.hops.within c.in-Some.ends.at ends.there)).one c.in-Some.ends.source ends.source in
    record {
      trace = c.requires.hops.trace;
      there = ends.there;
      less = low.0;
      more = high.0;
      to = low.1;
      from = high.1;
      dearer = ends.cheaper;
      room = room;
    }
