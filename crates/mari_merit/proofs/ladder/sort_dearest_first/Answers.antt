use Rattle.std.proofs.Common.{◌≡◌, rules}
use Rattle.std.proofs.lemmas.Fn.{always_returns_same}
use Rattle.mari_merit.specs.declared.ladder.Step.{Step}
use Rattle.mari_merit.proofs.MeritOrder.{dearest_first}
use Rattle.mari_merit.proofs.ladder.sort_dearest_first.Goals as goal

pub returns-clause-in_order : goal.returns-clause-in_order
returns-clause-in_order c =
    dearest_first _
    (c.in_ok-sort_by_key.ensures.sorted (λ (r : Step). ((record { 0 = r.price.0 }), r.order))
    (always_returns_same _ (λ a r. r ≡ ((record { 0 = a.0.now.price.0 }), a.0.now.order)) _ (λ a r q k. search rules)))
