use Rattle.std.proofs.Common.{◌≡◌, ◌∙◌, ap}
use Rattle.mari_core.specs.declared.event.Event.TheVariants.{Take}
use Rattle.mari_core.specs.Machine.{Machine, after}
use Rattle.mari_workers.specs.Alone.{after_offer, best_in}
use Rattle.mari_market.specs.Prefix.{word_of}
use Rattle.mari_workers.proofs.Visits.{settle_allowed}
use Rattle.mari_workers.proofs.alone.visit.Goals as goal

-- the search after what was found is offered
offered : (c : goal.After-step-arg-2-1) → c.offer_found.new.search ≡ after_offer (after c.args.search.now (Take 0 c.args.node)) (best_in c.in_ok-finding.finding)
offered c = c.in_ok-offer_found.ensures.offered ∙ ap (λ (s : Machine). after_offer s (best_in c.in_ok-finding.finding)) c.step.ensures.change

pub step-requires-2-clause-proper : goal.step-requires-2-clause-proper
step-requires-2-clause-proper c =
    (settle_allowed c.args.market.now c.args.search.now c.offer_found.new.search c.args.node
    (word_of c.args.prefix.now) c.in_ok-finding.finding c.requires.waits c.requires.word c.in_ok-finding.ensures.finding (offered c) c.in_ok-offer_found.ensures.facts).proper

pub step-requires-2-clause-accepted : goal.step-requires-2-clause-accepted
step-requires-2-clause-accepted c =
    (settle_allowed c.args.market.now c.args.search.now c.offer_found.new.search c.args.node
    (word_of c.args.prefix.now) c.in_ok-finding.finding c.requires.waits c.requires.word c.in_ok-finding.ensures.finding (offered c) c.in_ok-offer_found.ensures.facts).accepted
