use Rattle.std.proofs.Common.{◌≡◌, false, true, Some, [], ◌∷◌, ◌++◌, set, length-set, arith, refl, sym, ap, subst, ◌∙◌, rules}
use Rattle.std.specs.Prelude.{vec_capacity, slice_get}
use Rattle.mari_market.specs.Prefix.{word_of}
use Rattle.mari_core.specs.declared.node.NodeState.TheVariants.{Untaken}
use Rattle.mari_core.specs.Growth.{Grown, grown, in_journal, IsAllowed}
use Rattle.mari_core.specs.Growth.Entry.{GiveBack}
use Rattle.mari_core.proofs.Changes.{length-with_state}
use Rattle.mari_pool.specs.Queued.{IsQueueOf}
use Rattle.mari_pool.proofs.Queues.{back_room, queue_back}
use Rattle.mari_pool.specs.Pooled.{Pooled, IsTakenAt, unreturned, taken_among}
use Rattle.mari_pool.proofs.Rooms.{taken_after, unreturned_set}
use Rattle.mari_pool.proofs.Turns.{turns_back}
use Rattle.mari_pool.proofs.Keeps.{pool_of, pool_same, has_room, entry_keeps, not_returned, not_again}
use Rattle.mari_pool.proofs.pool.Pool.give_back.Goals as goal

pub push_reserved-requires : goal.push_reserved-requires
push_reserved-requires g c =
    let p = pool_of c.self.inside.tree c.self.inside.queue.keys c.self.inside.journal.items
    (vec_capacity c.self.inside.journal) c.self.inside.turns.items c.self.inside.returned.items c.self.inside.seat in
    let e = GiveBack c.args.ticket.worker c.args.ticket.node in
    let fresh = subst (λ (q : Pooled). IsTakenAt q c.args.ticket.node c.args.ticket.turn c.args.ticket.worker (word_of c.args.ticket.prefix)) (sym c.self.view_is)
    (c.is_fresh.ensures.0 c.if-not-is_fresh.false) in
    let may : IsAllowed c.self.inside.tree e = fresh.taken in
    let first : slice_get c.self.inside.returned.items c.args.ticket.worker ≡ Some false =
    not_returned c.self.inside.returned.items c.args.ticket.worker c.index.result.now (omega (arith, c.args.ticket.numbered, c.self.invariant.0.returned_are)) c.index.ensures c.if-index.false in
    let paid = unreturned_set c.self.inside.returned.items c.args.ticket.worker first in
    let room = has_room g.N.SearchName.market g.N.SearchName.budget g.N.SearchName.workers g.N.SearchName.incumbent p e
    (unreturned (set c.self.inside.returned.items c.args.ticket.worker true)) c.self.invariant.0 may paid in
    omega (arith, room, c.self.inside.journal.ok.0)

pub put_back-requires : goal.put_back-requires
put_back-requires g c = search (rules, back_room)

pub overflow_sub-self : goal.overflow_sub-self
overflow_sub-self g c =
    let p = pool_of c.self.inside.tree c.self.inside.queue.keys c.self.inside.journal.items
    (vec_capacity c.self.inside.journal) c.self.inside.turns.items c.self.inside.returned.items c.self.inside.seat in
    let e = GiveBack c.args.ticket.worker c.args.ticket.node in
    let fresh = subst (λ (q : Pooled). IsTakenAt q c.args.ticket.node c.args.ticket.turn c.args.ticket.worker (word_of c.args.ticket.prefix)) (sym c.self.view_is)
    (c.is_fresh.ensures.0 c.if-not-is_fresh.false) in
    let may : IsAllowed c.self.inside.tree e = fresh.taken in
    let first : slice_get c.self.inside.returned.items c.args.ticket.worker ≡ Some false =
    not_returned c.self.inside.returned.items c.args.ticket.worker c.index.result.now (omega (arith, c.args.ticket.numbered, c.self.invariant.0.returned_are)) c.index.ensures c.if-index.false in
    let paid = unreturned_set c.self.inside.returned.items c.args.ticket.worker first in
    omega (arith, taken_after c.self.inside.tree e may, c.self.invariant.1)

pub invariant_of-self : goal.invariant_of-self
invariant_of-self g c =
    let p = pool_of c.self.inside.tree c.self.inside.queue.keys c.self.inside.journal.items
    (vec_capacity c.self.inside.journal) c.self.inside.turns.items c.self.inside.returned.items c.self.inside.seat in
    let e = GiveBack c.args.ticket.worker c.args.ticket.node in
    let fresh = subst (λ (q : Pooled). IsTakenAt q c.args.ticket.node c.args.ticket.turn c.args.ticket.worker (word_of c.args.ticket.prefix)) (sym c.self.view_is)
    (c.is_fresh.ensures.0 c.if-not-is_fresh.false) in
    let may : IsAllowed c.self.inside.tree e = fresh.taken in
    let first : slice_get c.self.inside.returned.items c.args.ticket.worker ≡ Some false =
    not_returned c.self.inside.returned.items c.args.ticket.worker c.index.result.now (omega (arith, c.args.ticket.numbered, c.self.invariant.0.returned_are)) c.index.ensures c.if-index.false in
    let paid = unreturned_set c.self.inside.returned.items c.args.ticket.worker first in
    let change : c.give_back.new.self ≡ grown c.self.inside.tree e = c.in-Ok.ensures.change in (
      pool_same g.N.SearchName.market g.N.SearchName.budget g.N.SearchName.workers g.N.SearchName.incumbent (grown c.self.inside.tree e)
          c.give_back.new.self c.self.inside.queue.keys c.put_back.new.self.keys (c.self.inside.journal.items ++ in_journal e ∷ [])
          c.push_reserved.new.self.items (vec_capacity c.self.inside.journal) (vec_capacity c.push_reserved.new.self) c.self.inside.turns.items
          (set c.self.inside.returned.items c.args.ticket.worker true) c.self.inside.seat c.self.inside.seat
          change c.put_back.ensures.keys c.push_reserved.ensures.items c.push_reserved.ensures.capacity refl
          (entry_keeps g.N.SearchName.market g.N.SearchName.budget g.N.SearchName.workers g.N.SearchName.incumbent p e c.self.inside.queue.keys c.self.inside.turns.items
          (set c.self.inside.returned.items c.args.ticket.worker true) c.self.invariant.0 may paid tt
          (c.self.invariant.0.keys_are ∙ sym (length-with_state Untaken c.self.inside.tree.nodes c.args.ticket.node)) refl (length-set c.self.inside.returned.items c.args.ticket.worker true)
          (turns_back c.self.inside.tree c.args.ticket.worker c.args.ticket.node c.self.inside.turns.items c.self.inside.journal.items c.self.invariant.0.turns_report)),
      omega (arith, ap (λ (t : Grown). taken_among t.nodes) change, taken_after c.self.inside.tree e may, c.self.invariant.1),
      subst (λ (t : Grown). IsQueueOf t.nodes c.put_back.new.self) (sym change)
          (queue_back c.self.inside.tree.nodes c.self.inside.queue c.put_back.new.self c.args.ticket.node c.args.ticket.worker c.self.invariant.2 c.put_back.ensures fresh.taken),
      c.put_back.ensures.room ∙ c.self.invariant.3 ∙ sym (ap (λ (t : Grown). t.budget) change),
    )

pub returns-clause-again : goal.returns-clause-again
returns-clause-again g c = grind (arith, not_again)
