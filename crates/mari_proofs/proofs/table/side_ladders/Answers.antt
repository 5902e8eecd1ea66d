use Rattle.std.proofs.Common.{length, List, arith, ap, sym, subst}
use Rattle.std.specs.List.{All}
use Rattle.std.proofs.lemmas.List.Sorted.{All-permutation, length_permutation}
use Rattle.mari_proofs.specs.declared.table.Offer.{Offer}
use Rattle.mari_proofs.specs.Tables.{AreOffersOf, IsOffer}
use Rattle.mari_proofs.proofs.Ladders.{if_ok_both, offers_moved, side_is}
use Rattle.mari_proofs.proofs.table.side_ladders.Goals as goal

pub ladders_of-requires-clause-few : goal.ladders_of-requires-clause-few
ladders_of-requires-clause-few c =
    omega (arith, c.in_ok-offers.ensures.few, ap (λ (xs : List Offer). length xs) c.as_slice.ensures.value, length_permutation _ _ c.sort_offers.ensures.same)

pub ladders_of-requires-clause-offers : goal.ladders_of-requires-clause-offers
ladders_of-requires-clause-offers c =
    subst (All (IsOffer c.args.market.now.zones)) (sym c.as_slice.ensures.value) (All-permutation (IsOffer c.args.market.now.zones) _ _ c.sort_offers.ensures.same c.in_ok-offers.ensures.offers)

pub returns : goal.returns
returns c =
    let few = c.in_ok-offers.ensures.few in
    let offers =
    subst (All (IsOffer c.args.market.now.zones)) (sym c.as_slice.ensures.value) (All-permutation (IsOffer c.args.market.now.zones) _ _ c.sort_offers.ensures.same c.in_ok-offers.ensures.offers) in
    let once = subst (AreOffersOf c.args.side c.args.market.now.orders) (sym c.as_slice.ensures.value)
    (offers_moved c.args.side c.args.market.now.orders _ _ c.sort_offers.ensures.same c.in_ok-offers.ensures.once) in
    if_ok_both c.ladders_of.result _ _ _ c.ladders_of.ensures.long c.ladders_of.ensures.ladders
    (λ v long each. side_is c.args.market.now c.args.side c.as_slice.result.now v.items long
    (omega (arith, few, ap (λ (xs : List Offer). length xs) c.as_slice.ensures.value, length_permutation _ _ c.sort_offers.ensures.same)) offers once each)
