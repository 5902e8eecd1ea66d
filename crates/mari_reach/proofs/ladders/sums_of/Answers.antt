use Rattle.std.proofs.Common.{◌≡◌, ◌++◌, ◌∷◌, [], List, length, take, get_or, arith, ap, sym, subst}
use Rattle.std.proofs.lemmas.List.{length-append}
use Rattle.mari_units.specs.declared.limits.TheConstants.{MOST_ZONES}
use Rattle.mari_reach.specs.declared.ladders.Sums.{Sums}
use Rattle.mari_reach.specs.Ladders.{AreSumsOf}
use Rattle.mari_reach.proofs.Offers.{first_small, no_offer, sums_more, sums_push}
use Rattle.mari_reach.proofs.ladders.sums_of.Goals as goal

pub with-last-requires-clause-small : goal.with-last-requires-clause-small
with-last-requires-clause-small c =
    first_small MOST_ZONES c.loop-offer.offer-index c.args.offers.now c.loop-offer.last (omega (arith, c.loop-offer-test.true)) c.requires.offers c.requires.few c.loop-offer.invariant.last

pub loop-offer-preserved : goal.loop-offer-preserved
loop-offer-preserved c =
    let xs = c.args.offers.now in
    let i = c.loop-offer.offer-index in
    let new = c.push-in-loop-offer.new.self.items in
    let old = c.loop-offer.sums.items in
    let pushed : new ≡ old ++ c.with-last.result ∷ [] = c.in_ok-push-2.ensures.items in
    let last = sums_more xs i no_offer c.loop-offer.last c.with-last.result c.loop-offer-test.true c.loop-offer.invariant.last c.with-last.ensures.mw c.with-last.ensures.worth in
    record {
      long = omega (arith, ap (λ (s : List Sums). length s) pushed, length-append old (c.with-last.result ∷ []), c.loop-offer.invariant.long);
      last = last;
      sums = λ k d l. subst (λ (s : List Sums). AreSumsOf (take k xs) (get_or s k d)) (sym pushed)
          (sums_push xs i old c.with-last.result c.loop-offer.invariant.long last c.loop-offer.invariant.sums k d l);
    }
