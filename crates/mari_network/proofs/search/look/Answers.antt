use Rattle.std.proofs.Common.{◌≡◌, false, ℕ, sym, ap, ◌∙◌, arith, subst, take, get_or, List}
use Rattle.std.specs.List.{All}
use Rattle.std.proofs.lemmas.List.{take_more, take_all, get_or_default}
use Rattle.std.proofs.lemmas.List.Elements.{All-push}
use Rattle.mari_network.specs.declared.chain.Hop.{Hop}
use Rattle.mari_network.specs.declared.network.Crossing.{Crossing}
use Rattle.mari_network.specs.Network.{AreMeeting, IsCrossing}
use Rattle.mari_network.specs.Chain.{no_hop, hop_at}
use Rattle.mari_network.proofs.Spread.{Leads, all_into}
use Rattle.mari_network.proofs.search.look.Goals as goal

-- what is read past the end of a list of crossings
abbrev no_crossing : Crossing
no_crossing = record { from = 0; border = 0; forth = false }

pub reach_over-requires-clause-crossing : goal.reach_over-requires-clause-crossing
reach_over-requires-clause-crossing c =
    let stay : hop_at c.loop-crossing.hops.items c.args.at ≡ hop_at c.args.hops.now.items c.args.at = c.loop-crossing.invariant.stay c.args.at c.requires.at in
    let zone : c.index.result.now.zone ≡ (hop_at c.loop-crossing.hops.items c.args.at).zone =
    ap (λ (x : Hop). x.zone) (c.index.ensures ∙ get_or_default c.args.hops.now.items c.args.at c.index.result.now no_hop c.requires.at ∙ sym stay) in
    subst (λ (z : ℕ). IsCrossing c.args.network.now.borders.now z (get_or c.meeting_at-crossings.result.now c.loop-crossing.crossing-index no_crossing)) zone
    (c.meeting_at-crossings.ensures.each c.loop-crossing.crossing-index no_crossing c.loop-crossing-test.true)

pub loop-crossing-preserved : goal.loop-crossing-preserved
loop-crossing-preserved c =
    let bs = c.args.network.now.borders.now in
    let crossings = c.meeting_at-crossings.result.now in
    let marked = c.reach_over.new.marked in
    record {
      spread = λ old start s. c.in_ok-reach_over.ensures.spread old start (c.loop-crossing.invariant.spread old start s);
      keeps = λ z e. c.reach_over.ensures.keeps z (c.loop-crossing.invariant.keeps z e);
      stay = λ k l. c.reach_over.ensures.stay k (omega (arith, c.loop-crossing.invariant.more)) ∙ c.loop-crossing.invariant.stay k l;
      more = omega (arith, c.loop-crossing.invariant.more, c.reach_over.ensures.more);
      into =
          subst (λ (some : List Crossing). All (Leads bs c.args.flows.now marked) some) (sym (take_more crossings c.loop-crossing.crossing-index no_crossing c.loop-crossing-test.true))
          (All-push (Leads bs c.args.flows.now marked) (take c.loop-crossing.crossing-index crossings) (get_or crossings c.loop-crossing.crossing-index no_crossing)
          (λ k d l r. c.reach_over.ensures.keeps _ (c.loop-crossing.invariant.into k d l r))
          c.in_ok-reach_over.ensures.into);
    }

pub returns-clause-into : goal.returns-clause-into
returns-clause-into c =
    let zone : c.index.result.now.zone ≡ (hop_at c.args.hops.now.items c.args.at).zone =
    ap (λ (x : Hop). x.zone) (c.index.ensures ∙ get_or_default c.args.hops.now.items c.args.at c.index.result.now no_hop c.requires.at) in
    let found = c.meeting_at-crossings.result.now in
    let all : take c.loop-crossing.crossing-index found ≡ found = take_all c.loop-crossing.crossing-index found c.loop-crossing-test.false in
    all_into c.args.network.now.borders.now c.args.flows.now c.loop-crossing.marked (hop_at c.args.hops.now.items c.args.at).zone found (sym c.requires.flows)
    (subst (λ (z : ℕ). AreMeeting c.args.network.now.borders.now z found) zone c.meeting_at-crossings.ensures)
    (subst (λ (crossings : List Crossing). All (Leads c.args.network.now.borders.now c.args.flows.now c.loop-crossing.marked) crossings) all c.loop-crossing.invariant.into)
