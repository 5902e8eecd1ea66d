use Rattle.std.proofs.Common.{◌≡◌, rules}
use Rattle.std.proofs.lemmas.Fn.{always_returns_same}
use Rattle.mari_proofs.specs.declared.table.Offer.{Offer}
use Rattle.mari_market.proofs.Rising.{rises}
use Rattle.mari_proofs.proofs.table.sort_offers.Goals as goal

pub returns-clause-rising : goal.returns-clause-rising
returns-clause-rising c = rises (λ (r : Offer). r.price) _ (c.in_ok-sort_by_key.ensures.sorted (λ (r : Offer). r.price) (always_returns_same _ (λ a r. r ≡ a.0.now.price) _ (λ a r q k. search rules)))
