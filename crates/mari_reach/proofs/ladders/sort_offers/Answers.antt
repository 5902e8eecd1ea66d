use Rattle.std.proofs.Common.{◌≡◌, rules}
use Rattle.std.proofs.lemmas.Fn.{always_returns_same}
use Rattle.mari_market.proofs.Rising.{rises}
use Rattle.mari_reach.specs.declared.ladders.Offer.{Offer}
use Rattle.mari_reach.proofs.ladders.sort_offers.Goals as goal

pub returns-clause-rising : goal.returns-clause-rising
returns-clause-rising c = rises (λ (x : Offer). x.place) _ (c.in_ok-sort_by_key.ensures.sorted (λ (x : Offer). x.place) (always_returns_same _ (λ a r. r ≡ a.0.now.place) _ (λ a r q k. search rules)))
