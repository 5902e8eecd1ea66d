use Rattle.std.proofs.Common.{◌≡◌, ◌<◌, ◌+◌, ◌++◌, ◌∷◌, [], ℕ, List, Vec, Global, take, get_or, sym, ap, ◌∙◌, arith, subst, inl, inr}
use Rattle.std.proofs.lemmas.Bool.{cases_eq}
use Rattle.std.proofs.lemmas.List.{take_all}
use Rattle.std.specs.List.{All}
use Rattle.mari_market.specs.declared.limits.TheConstants.{MOST_ORDERS}
use Rattle.mari_proofs.specs.declared.table.Offer.{Offer}
use Rattle.mari_proofs.specs.declared.table.Rung.{Rung}
use Rattle.mari_proofs.specs.Tables.{last_rung, rung_after, IsLadderOf, IsSmallRung}
use Rattle.mari_proofs.proofs.Ladders.{ladder_take_at, ladder_skip_at, ladder_small, no_offer}
use Rattle.mari_proofs.proofs.table.ladders_of.Goals as goal

pub rung_after-rung-requires-clause-ladder : goal.rung_after-rung-requires-clause-ladder
rung_after-rung-requires-clause-ladder c =
    let at = c.loop-offer.offer-index in
    let zone = (get_or c.args.offers.now c.loop-offer.offer-index no_offer).zone in
    let there : zone < c.args.zones = (c.requires.offers at no_offer c.loop-offer-test.true).zone in
    subst (All (IsSmallRung MOST_ORDERS)) (sym (c.as_slice.ensures.value ∙ ap (λ (v : Vec Rung Global). v.items) c.index.ensures))
    (ladder_small zone at c.args.offers.now (get_or c.loop-offer.ladders.items zone c.index.result.now).items (omega (arith, c.loop-offer-test.true)) c.requires.few
    (c.loop-offer.invariant.ladders zone c.index.result.now there))

pub loop-offer-preserved : goal.loop-offer-preserved
loop-offer-preserved c =
    let at = c.loop-offer.offer-index in
    let offers = c.args.offers.now in
    let offer = get_or c.args.offers.now c.loop-offer.offer-index no_offer in
    let zone = (get_or c.args.offers.now c.loop-offer.offer-index no_offer).zone in
    let there : zone < c.args.zones = (c.requires.offers at no_offer c.loop-offer-test.true).zone in
    let rungs = (get_or c.loop-offer.ladders.items zone c.index.result.now).items in
    let read : c.as_slice.result.now ≡ rungs = c.as_slice.ensures.value ∙ ap (λ (v : Vec Rung Global). v.items) c.index.ensures in
    let rung : c.rung_after-rung.result ≡ rung_after (last_rung rungs) offer = c.rung_after-rung.ensures ∙ ap (λ (rs : List Rung). rung_after (last_rung rs) offer) read in
    record {
      long = c.add_to.ensures.long ∙ c.loop-offer.invariant.long;
      ladders = λ z d l. elim (cases_eq z zone) [
        | inl e ↦
            let new : (get_or c.add_to.new.ladders.items zone d).items ≡ rungs ++ rung_after (last_rung rungs) offer ∷ [] =
            c.in_ok-add_to.ensures.here d c.index.result.now ∙ ap (λ (r : Rung). rungs ++ r ∷ []) rung in
            subst (λ (k : ℕ). IsLadderOf k (take (at + 1) offers) (get_or c.add_to.new.ladders.items k d).items) (sym e)
            (ladder_take_at offers at no_offer rungs (get_or c.add_to.new.ladders.items zone d).items c.args.zones c.requires.rising c.loop-offer-test.true c.requires.offers new
            (c.loop-offer.invariant.ladders zone c.index.result.now there))
        | inr n ↦
            subst (λ (v : Vec Rung Global). IsLadderOf z (take (at + 1) offers) v.items) (sym (c.add_to.ensures.others z d n))
            (ladder_skip_at z offers at no_offer (get_or c.loop-offer.ladders.items z d).items c.loop-offer-test.true (λ e. n (sym e)) (c.loop-offer.invariant.ladders z d l))
      ];
    }

pub returns-clause-ladders : goal.returns-clause-ladders
returns-clause-ladders c = λ z d l.
    subst (λ (xs : List Offer). IsLadderOf z xs (get_or c.loop-offer.ladders.items z d).items) (take_all c.loop-offer.offer-index c.args.offers.now c.loop-offer-test.false)
    (c.loop-offer.invariant.ladders z d l)
