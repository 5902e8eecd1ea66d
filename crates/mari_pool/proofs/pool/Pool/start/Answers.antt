use Rattle.std.proofs.Common.{arith, sym, ap, subst, ◌∙◌}
use Rattle.std.specs.Prelude.{vec_capacity}
use Rattle.std.proofs.lemmas.Grind.{common_steps}
use Rattle.mari_core.specs.Growth.{Grown}
use Rattle.mari_pool.proofs.Keeps.{start_keeps}
use Rattle.mari_pool.specs.Pooled.{taken_among}
use Rattle.mari_pool.specs.Queued.{IsQueueOf}
use Rattle.mari_pool.proofs.Queues.{queue_start}
use Rattle.mari_pool.proofs.pool.Pool.start.Goals as goal

pub invariant_of-result : goal.invariant_of-result
invariant_of-result g c = (
  start_keeps c.args.market.now g.N.SearchName.market c.args.budget g.N.SearchName.budget c.args.workers g.N.SearchName.workers g.N.SearchName.incumbent c.in_ok-tree.tree c.in_ok-queue.queue.keys
      c.in_ok-journal.journal.items (vec_capacity c.in_ok-journal.journal) c.in_ok-turns.turns.items c.in_ok-returned.returned.items c.args.seat
      c.requires.name.0 c.requires.name.1 c.requires.name.2 c.requires.market c.requires.budget c.requires.seat c.requires.closed
      c.in_ok-tree.ensures (queue_start c.in_ok-queue.queue c.args.budget c.in_ok-queue.ensures).1 c.in_ok-journal.ensures.items (omega (arith, c.in_ok-journal.ensures.capacity))
      (grind (arith, common_steps)) (grind (arith, common_steps)),
  ap (λ (t : Grown). taken_among t.nodes) c.in_ok-tree.ensures,
  subst (λ (t : Grown). IsQueueOf t.nodes c.in_ok-queue.queue) (sym c.in_ok-tree.ensures) (queue_start c.in_ok-queue.queue c.args.budget c.in_ok-queue.ensures).0,
  (queue_start c.in_ok-queue.queue c.args.budget c.in_ok-queue.ensures).2 ∙ sym (ap (λ (t : Grown). t.budget) c.in_ok-tree.ensures),
)
