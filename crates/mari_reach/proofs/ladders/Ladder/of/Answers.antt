use Rattle.std.proofs.Common.{◌≤◌, List, length, arith, ap, sym, subst}
use Rattle.std.specs.List.{All}
use Rattle.std.proofs.lemmas.List.Sorted.{All-permutation, length_permutation}
use Rattle.mari_units.specs.declared.limits.TheConstants.{MOST_ZONES}
use Rattle.mari_market.specs.declared.limits.TheConstants.{MOST_ORDERS}
use Rattle.mari_reach.specs.declared.ladders.Offer.{Offer}
use Rattle.mari_reach.specs.Ladders.{IsOffer}
use Rattle.mari_reach.proofs.Offers.{ladder_is, offers_moved, wide}
use Rattle.mari_reach.proofs.ladders.Ladder.of.Goals as goal

pub sums_of-requires-clause-few : goal.sums_of-requires-clause-few
sums_of-requires-clause-few c = omega (arith, c.in_ok-offers.ensures.few, ap (λ (xs : List Offer). length xs) c.as_slice.ensures.value, length_permutation _ _ c.sort_offers.ensures.same)

pub sums_of-requires-clause-offers : goal.sums_of-requires-clause-offers
sums_of-requires-clause-offers c = wide c.args.market.now.zones MOST_ZONES c.as_slice.result.now (c.requires.zones.1)
    (subst (All (IsOffer c.args.market.now.zones)) (sym c.as_slice.ensures.value) (All-permutation (IsOffer c.args.market.now.zones) _ _ c.sort_offers.ensures.same c.in_ok-offers.ensures.offers))

pub returns : goal.returns
returns c =
    let few : length c.as_slice.result.now ≤ MOST_ORDERS = omega (
      arith,
      c.in_ok-offers.ensures.few,
      ap
          (λ (xs : List Offer). length xs) c.as_slice.ensures.value,
      length_permutation _ _ c.sort_offers.ensures.same,
    ) in
    let fine : All (IsOffer c.args.market.now.zones) c.as_slice.result.now =
    subst (All (IsOffer c.args.market.now.zones)) (sym c.as_slice.ensures.value) (All-permutation (IsOffer c.args.market.now.zones) _ _ c.sort_offers.ensures.same c.in_ok-offers.ensures.offers) in
    ladder_is c.args.market.now c.args.side c.as_slice.result.now c.as_slice-2.result.now c.as_slice-3.result.now _
    c.as_slice.ensures.value c.as_slice-2.ensures.value c.as_slice-3.ensures.value (c.requires.zones.1) few fine c.in_ok-sort_offers.ensures.rising
    c.in_ok-sums.ensures.long c.in_ok-sums.ensures.sums c.in_ok-starts.ensures.long c.in_ok-starts.ensures.starts
    (offers_moved c.args.side c.args.market.now.orders _ _ c.sort_offers.ensures.same c.in_ok-offers.ensures.once)
