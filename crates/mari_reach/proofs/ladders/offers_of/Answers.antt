use Rattle.std.proofs.Common.{◌≡◌, ◌<◌, ◌++◌, ◌∷◌, [], length, get_or, Some, None, List, arith, ap, sym, subst, ◌∙◌, Vec, Global}
use Rattle.std.proofs.lemmas.List.{length-append}
use Rattle.std.proofs.lemmas.List.Elements.{All-push}
use Rattle.std.specs.List.{All}
use Rattle.mari_market.specs.declared.market.Order.{Order}
use Rattle.mari_market.specs.Sums.{int_sum}
use Rattle.mari_proofs.proofs.Ladders.{no_order}
use Rattle.mari_reach.specs.declared.ladders.Offer.{Offer}
use Rattle.mari_reach.specs.Ladders.{offer_of, IsOffer}
use Rattle.mari_reach.proofs.Offers.{is_offer, offers_skip, offers_take}
use Rattle.mari_reach.proofs.ladders.offers_of.Goals.{in-Some+in_ok-push, in_default}
use Rattle.mari_reach.proofs.ladders.offers_of.Goals as goal

pub loop-order-preserved : goal.loop-order-preserved
loop-order-preserved c = elim c.match-offer_of.branch [
  | in-Some+in_ok-push w ↦
      let there : c.loop-order.order-index < length c.args.market.now.orders = omega (arith, c.loop-order-test.true, ap (λ (os : List Order). length os) c.as_slice-order-items.ensures) in
      let read = ap (λ (os : List Order). offer_of c.args.side (get_or os c.loop-order.order-index no_order)) c.as_slice-order-items.ensures in
      let is : offer_of c.args.side (get_or c.args.market.now.orders c.loop-order.order-index no_order) ≡ Some w.in-Some.offer = sym read ∙ sym c.offer_of.ensures ∙ w.in-Some.is in
      let new : c.match-offer_of.offers.items ≡ c.loop-order.offers.items ++ w.in-Some.offer ∷ [] = ap (λ (v : Vec Offer Global). v.items) w.offers-is ∙ w.in_ok-push.ensures.items in
      let fine : IsOffer c.args.market.now.zones w.in-Some.offer =
      is_offer c.args.market.now.zones (length c.args.market.now.gates) c.args.side (get_or c.args.market.now.orders c.loop-order.order-index no_order) w.in-Some.offer
      (c.requires.market.orders c.loop-order.order-index no_order there) is in
      record {
        few = omega (arith, c.loop-order.invariant.few, ap length new, length-append c.loop-order.offers.items (w.in-Some.offer ∷ []));
        offers = subst (All (IsOffer c.args.market.now.zones)) (sym new) (All-push (IsOffer c.args.market.now.zones) c.loop-order.offers.items w.in-Some.offer c.loop-order.invariant.offers fine);
        once = offers_take c.args.side c.args.market.now.orders c.loop-order.order-index no_order c.loop-order.offers.items c.match-offer_of.offers.items w.in-Some.offer there is
            new c.loop-order.invariant.once;
      }
  | in_default w ↦
      let there : c.loop-order.order-index < length c.args.market.now.orders = omega (arith, c.loop-order-test.true, ap (λ (os : List Order). length os) c.as_slice-order-items.ensures) in
      let read = ap (λ (os : List Order). offer_of c.args.side (get_or os c.loop-order.order-index no_order)) c.as_slice-order-items.ensures in
      let is : offer_of c.args.side (get_or c.args.market.now.orders c.loop-order.order-index no_order) ≡ None = sym read ∙ sym c.offer_of.ensures ∙ w.in_default.is in
      let same : c.match-offer_of.offers.items ≡ c.loop-order.offers.items = ap (λ (v : Vec Offer Global). v.items) w.offers-is in
      record {
        few = omega (arith, c.loop-order.invariant.few, ap length same);
        offers = subst (All (IsOffer c.args.market.now.zones)) (sym same) c.loop-order.invariant.offers;
        once = λ f. ap (int_sum f) same ∙ offers_skip c.args.side c.args.market.now.orders c.loop-order.order-index no_order c.loop-order.offers.items there is c.loop-order.invariant.once f;
      }
]
