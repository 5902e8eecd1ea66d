use Rattle.std.proofs.Common.{◌≡◌, rules}
use Rattle.std.proofs.lemmas.Fn.{always_returns_same}
use Rattle.mari_merit.specs.declared.marginal.Rung.{Rung}
use Rattle.mari_market.proofs.Rising.{rises}
use Rattle.mari_merit.proofs.marginal.merit_order.Goals as goal

pub returns-clause-ascending : goal.returns-clause-ascending
returns-clause-ascending c = rises (λ (r : Rung). r.price) _ (c.in_ok-sort_by_key.ensures.sorted (λ (r : Rung). r.price) (always_returns_same _ (λ a r. r ≡ a.0.now.price) _ (λ a r q k. search rules)))
