use Rattle.std.proofs.Common.{ap, ◌∙◌}
use Rattle.mari_market.specs.Activation.{gate_word_of}
use Rattle.mari_core.specs.Machine.{Machine}
use Rattle.mari_workers.proofs.Visits.{start_under_way}
use Rattle.mari_workers.proofs.alone.cleared.Goals as goal

pub search_to_end-requires-clause-under_way : goal.search_to_end-requires-clause-under_way
search_to_end-requires-clause-under_way c =
    start_under_way c.args.market.now c.in_ok-search.search c.in_ok-queue.queue c.args.budget
    (ap (λ (s : Machine). s.tree) c.in_ok-search.ensures.started) c.in_ok-search.ensures.facts
    (ap (λ (s : Machine). gate_word_of c.args.market.now s.first.activation) c.in_ok-search.ensures.started ∙ c.in_ok-root.ensures.gates) c.in_ok-queue.ensures
