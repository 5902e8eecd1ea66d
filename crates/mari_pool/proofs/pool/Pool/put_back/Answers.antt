use Rattle.std.proofs.Common.{◌≡◌, ◌+◌, ◌≤◌, [], ◌∷◌, ◌++◌, length, arith, refl, sym, ap, subst, ◌∙◌, rules}
use Rattle.std.specs.Prelude.{vec_capacity}
use Rattle.mari_core.specs.declared.node.NodeState.TheVariants.{Untaken}
use Rattle.mari_core.specs.Nodes.{state_at}
use Rattle.mari_core.specs.Growth.{Grown, grown, in_journal, IsAllowed}
use Rattle.mari_core.specs.Growth.Entry.{GiveBack}
use Rattle.mari_core.proofs.Changes.{length-with_state}
use Rattle.mari_pool.specs.Queued.{IsQueueOf}
use Rattle.mari_pool.proofs.Queues.{back_room, queue_back}
use Rattle.mari_pool.specs.Pooled.{Pooled, owed, taken_among}
use Rattle.mari_pool.proofs.Rooms.{taken_after}
use Rattle.mari_pool.proofs.Turns.{turns_back}
use Rattle.mari_pool.proofs.Keeps.{pool_of, pool_same, entry_keeps_by, back_owed}
use Rattle.mari_pool.proofs.pool.Pool.put_back.Goals as goal

pub put_back-requires : goal.put_back-requires
put_back-requires g c = search (rules, back_room)

pub overflow_sub-self : goal.overflow_sub-self
overflow_sub-self g c =
    let p = pool_of c.self.inside.tree c.self.inside.queue.keys c.self.inside.journal.items
    (vec_capacity c.self.inside.journal) c.self.inside.turns.items c.self.inside.returned.items c.self.inside.seat in
    let e = GiveBack c.args.worker c.args.node in
    let may : IsAllowed c.self.inside.tree e = ap (λ (q : Pooled). state_at q.tree.nodes c.args.node) c.self.view_is ∙ c.requires.taken in
    omega (arith, taken_after c.self.inside.tree e may, c.self.invariant.1)

pub invariant_of-self : goal.invariant_of-self
invariant_of-self g c =
    let p = pool_of c.self.inside.tree c.self.inside.queue.keys c.self.inside.journal.items
    (vec_capacity c.self.inside.journal) c.self.inside.turns.items c.self.inside.returned.items c.self.inside.seat in
    let e = GiveBack c.args.worker c.args.node in
    let may : IsAllowed c.self.inside.tree e = ap (λ (q : Pooled). state_at q.tree.nodes c.args.node) c.self.view_is ∙ c.requires.taken in
    let room = subst (λ (q : Pooled). length q.journal + owed q.tree q.returned + 2 ≤ q.room) (sym c.self.view_is) c.requires.room in
    let change : c.give_back.new.self ≡ grown c.self.inside.tree e = c.in-Ok.ensures.change in (
      pool_same g.N.SearchName.market g.N.SearchName.budget g.N.SearchName.workers g.N.SearchName.incumbent (grown c.self.inside.tree e)
          c.give_back.new.self c.self.inside.queue.keys c.put_back.new.self.keys (c.self.inside.journal.items ++ in_journal e ∷ [])
          c.push_reserved.new.self.items (vec_capacity c.self.inside.journal) (vec_capacity c.push_reserved.new.self) c.self.inside.turns.items
          c.self.inside.returned.items c.self.inside.seat c.self.inside.seat
          change c.put_back.ensures.keys c.push_reserved.ensures.items c.push_reserved.ensures.capacity refl
          (entry_keeps_by g.N.SearchName.market g.N.SearchName.budget g.N.SearchName.workers g.N.SearchName.incumbent p e c.self.inside.queue.keys c.self.inside.turns.items
          c.self.inside.returned.items c.self.invariant.0 may (omega (
            arith,
            back_owed c.self.inside.tree c.args.worker c.args.node c.self.inside.returned.items c.self.invariant.0.grows may,
            room,
          )) tt (c.self.invariant.0.keys_are ∙ sym (length-with_state Untaken c.self.inside.tree.nodes c.args.node)) refl refl
          (turns_back c.self.inside.tree c.args.worker c.args.node c.self.inside.turns.items c.self.inside.journal.items c.self.invariant.0.turns_report)),
      omega (arith, ap (λ (t : Grown). taken_among t.nodes) change, taken_after c.self.inside.tree e may, c.self.invariant.1),
      subst (λ (t : Grown). IsQueueOf t.nodes c.put_back.new.self) (sym change)
          (queue_back c.self.inside.tree.nodes c.self.inside.queue c.put_back.new.self c.args.node c.args.worker c.self.invariant.2 c.put_back.ensures may),
      c.put_back.ensures.room ∙ c.self.invariant.3 ∙ sym (ap (λ (t : Grown). t.budget) change),
    )
