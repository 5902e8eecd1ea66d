use Rattle.std.proofs.Common.{◌≡◌, ◌<◌, true, false, not, ℕ, sym, ap, ◌∙◌, arith, List, length, subst, set, ◌++◌, ◌∷◌, [], inl, inr}
use Rattle.std.specs.Prelude.{count_by}
use Rattle.std.specs.List.{All, AllZip}
use Rattle.mari_market.specs.Market.{IsBetween}
use Rattle.std.proofs.lemmas.Bool.{cases_lt}
use Rattle.mari_network.specs.declared.chain.Hop.{Hop}
use Rattle.mari_network.specs.Chain.{hop_at}
use Rattle.mari_network.specs.Spread.{IsSpread, MarkedInto}
use Rattle.mari_network.proofs.Spread.{spread_first, into_keeps, closed_more, closed_all}
use Rattle.mari_network.proofs.Marks.{all_marked}
use Rattle.mari_network.proofs.Lists.{all_zip}
use Rattle.mari_network.proofs.search.spread.Goals as goal

pub loop-at-init : goal.loop-at-init
loop-at-init c =
    let h : Hop = record { zone = c.args.start; border = 0; forth = false; before = 0 } in
    let items : c.push.new.self.items ≡ h ∷ [] = c.in_ok-push.ensures.items ∙ ap (λ (xs : List Hop). xs ++ h ∷ []) c.clear.ensures.items in
    record {
      spread = subst (λ (hops : List Hop). IsSpread c.args.network.now.borders.now c.args.flows.now c.args.marked.now c.args.start (set c.args.marked.now c.args.start true) hops) (sym items)
          (spread_first c.args.network.now.borders.now c.args.flows.now c.args.marked.now h c.requires.start c.requires.fresh);
      there = omega arith;
      into = λ k l. absurd (omega arith);
    }

pub loop-at-preserved : goal.loop-at-preserved
loop-at-preserved c =
    record {
      spread = c.in_ok-look.ensures.spread _ _ c.loop-at.invariant.spread;
      there = omega (arith, c.look.ensures.more, c.len.ensures, c.loop-at-test.true);
      into = λ k l. elim (cases_lt k c.loop-at.at) [
        | inl e ↦
            let was : k < length c.loop-at.hops.items = omega (arith, c.loop-at.invariant.there) in
            subst (λ (h : Hop). AllZip (MarkedInto c.look.new.marked h.zone) c.args.network.now.borders.now c.args.flows.now) (sym (c.look.ensures.stay k was))
            (into_keeps c.loop-at.marked c.look.new.marked (hop_at c.loop-at.hops.items k).zone c.args.network.now.borders.now c.args.flows.now c.look.ensures.keeps (c.loop-at.invariant.into k e))
        | inr e ↦
            let same : c.loop-at.at ≡ k = omega arith in
            let was : c.loop-at.at < length c.loop-at.hops.items = omega (arith, c.len.ensures, c.loop-at-test.true) in
            subst (λ (n : ℕ). AllZip (MarkedInto c.look.new.marked (hop_at c.look.new.hops.items n).zone) c.args.network.now.borders.now c.args.flows.now) same
            (subst (λ (h : Hop). AllZip (MarkedInto c.look.new.marked h.zone) c.args.network.now.borders.now c.args.flows.now) (sym (c.look.ensures.stay c.loop-at.at was)) c.in_ok-look.ensures.into)
      ];
    }

pub returns-else-len-left-clause-closed : goal.returns-else-len-left-clause-closed
returns-else-len-left-clause-closed c =
    let marks : length c.loop-at.marked ≡ length c.args.network.now.meeting.now = omega (arith, c.loop-at.invariant.spread.long, c.requires.marks) in
    let none : count_by not c.loop-at.marked ≡ 0 = omega (arith, c.if-len-left.false, c.len-in-loop-at.ensures, c.requires.left, c.loop-at.invariant.spread.count) in
    closed_all c.loop-at.marked c.args.network.now.borders.now c.args.flows.now
    (all_zip (IsBetween (length c.loop-at.marked)) c.args.network.now.borders.now c.args.flows.now (sym c.requires.flows)
    (subst (λ (n : ℕ). All (IsBetween n) c.args.network.now.borders.now) (sym marks) c.requires.network.ends))
    (λ z l. all_marked c.loop-at.marked z none l)

pub returns-after-loop-at-clause-closed : goal.returns-after-loop-at-clause-closed
returns-after-loop-at-clause-closed c =
    closed_more c.args.marked.now c.loop-at.marked c.loop-at.hops.items c.args.network.now.borders.now c.args.flows.now c.loop-at.invariant.spread.news c.loop-at.invariant.spread.keeps
    (λ k l. c.loop-at.invariant.into k (omega (arith, c.len.ensures, c.loop-at-test.false))) c.requires.closed
