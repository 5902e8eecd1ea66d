use Rattle.std.proofs.Common.{◌≡◌, ℕ, ◌≤◌, max, [], ◌∷◌, ◌++◌, length, arith, sym, ap, subst, ◌∙◌}
use Rattle.std.specs.Prelude.{vec_capacity}
use Rattle.mari_market.specs.Prefix.{word_of}
use Rattle.mari_core.specs.declared.journal.JournalEntry.{JournalEntry}
use Rattle.mari_core.specs.Growth.{Grown, settling, closing_leaf, grown, in_journal, IsAllowed, IsCutoff}
use Rattle.mari_incumbent.specs.Incumbent.{IncumbentId, seat_view}
use Rattle.mari_pool.specs.declared.ticket.Settled.TheVariants as settled
use Rattle.mari_core.proofs.Journals.{grown_budget}
use Rattle.mari_pool.specs.Pooled.{Pooled, IsTakenAt, keys_after, settled_with, unreturned, taken_among, answer_of}
use Rattle.mari_pool.specs.Queued.{child_key, CanFollow, Follows, IsQueueOf}
use Rattle.mari_pool.proofs.Queues.{IsFollowed, can_follow, follows_kept}
use Rattle.mari_pool.proofs.Rooms.{settling_paid, settling_comes, taken_after}
use Rattle.mari_pool.proofs.Keeps.{pool_of, pool_parts, pool_same, has_room, may_settle, may_settle_node, seat_cutoff, settle_keeps, answer_close, answer_branch, answer_full}
use Rattle.mari_pool.proofs.pool.Pool.settle.Goals as goal
use Rattle.mari_pool.proofs.pool.Pool.settle.Goals.{in-Close, in-Branch, in-Full}

pub settle-requires-clause-cutoff : goal.settle-requires-clause-cutoff
settle-requires-clause-cutoff g c =
    let p = pool_of c.self.inside.tree c.self.inside.queue.keys c.self.inside.journal.items
    (vec_capacity c.self.inside.journal) c.self.inside.turns.items c.self.inside.returned.items c.self.inside.seat in
    let above : g.N.SearchName.incumbent.first ≤ c.args.seat.now.seen =
    omega (arith, ap (λ (w : IncumbentId). w.first) c.requires.incumbent.1, c.offered-offered.ensures.at_least_first, c.offered-offered.ensures.at_most_seen) in
    subst (IsCutoff c.self.inside.tree.market) (sym c.seen-cutoff.ensures.seen)
    (seat_cutoff g.N.SearchName.market g.N.SearchName.budget g.N.SearchName.workers g.N.SearchName.incumbent p c.args.seat.now.seen c.self.invariant.0 above)

pub settle-requires-clause-finding : goal.settle-requires-clause-finding
settle-requires-clause-finding g c = grind (arith, may_settle_node)

pub follow-requires : goal.follow-requires
follow-requires g c =
    let p = pool_of c.self.inside.tree c.self.inside.queue.keys c.self.inside.journal.items
    (vec_capacity c.self.inside.journal) c.self.inside.turns.items c.self.inside.returned.items c.self.inside.seat in
    let seen = c.args.seat.now.seen in
    let e = settling c.self.inside.tree c.args.ticket.worker c.args.ticket.node seen c.args.finding in
    let fresh = subst (λ (q : Pooled). IsTakenAt q c.args.ticket.node c.args.ticket.turn c.args.ticket.worker (word_of c.args.ticket.prefix)) (sym c.self.view_is)
    (c.is_fresh.ensures.0 c.if-not-is_fresh.false) in
    let above : g.N.SearchName.incumbent.first ≤ seen =
    omega (arith, ap (λ (w : IncumbentId). w.first) c.requires.incumbent.1, c.offered-offered.ensures.at_least_first, c.offered-offered.ensures.at_most_seen) in
    let may : IsAllowed c.self.inside.tree e = may_settle g.N.SearchName.market g.N.SearchName.budget g.N.SearchName.workers g.N.SearchName.incumbent p c.args.ticket.worker c.args.ticket.node seen
    c.args.finding (word_of c.args.ticket.prefix) c.self.invariant.0 above fresh.taken fresh.word_is c.requires.finding in
    let change : c.settle.new.self ≡ grown c.self.inside.tree e =
    c.in-Ok.ensures.change ∙ ap (λ (n : ℕ). grown c.self.inside.tree (settling c.self.inside.tree c.args.ticket.worker c.args.ticket.node n c.args.finding)) c.seen-cutoff.ensures.seen in
    let entry : c.in-Ok.entry ≡ in_journal e =
    c.in-Ok.ensures.entry ∙ ap (λ (n : ℕ). in_journal (settling c.self.inside.tree c.args.ticket.worker c.args.ticket.node n c.args.finding)) c.seen-cutoff.ensures.seen in
    let count : c.len-nodes.result ≡ length (grown c.self.inside.tree e).nodes = c.len-nodes.ensures.len ∙ ap (λ (t : Grown). length t.nodes) change in
    subst (λ (n : ℕ). CanFollow c.self.inside.queue n c.in-Ok.entry) (sym count)
    (subst (CanFollow c.self.inside.queue (length (grown c.self.inside.tree e).nodes)) (sym entry)
    (can_follow c.self.inside.tree e c.self.inside.queue c.self.invariant.2 c.self.invariant.3 c.self.invariant.0.grows.within_budget may))

pub push_reserved-requires : goal.push_reserved-requires
push_reserved-requires g c =
    let p = pool_of c.self.inside.tree c.self.inside.queue.keys c.self.inside.journal.items
    (vec_capacity c.self.inside.journal) c.self.inside.turns.items c.self.inside.returned.items c.self.inside.seat in
    let seen = c.args.seat.now.seen in
    let e = settling c.self.inside.tree c.args.ticket.worker c.args.ticket.node seen c.args.finding in
    let fresh = subst (λ (q : Pooled). IsTakenAt q c.args.ticket.node c.args.ticket.turn c.args.ticket.worker (word_of c.args.ticket.prefix)) (sym c.self.view_is)
    (c.is_fresh.ensures.0 c.if-not-is_fresh.false) in
    let above : g.N.SearchName.incumbent.first ≤ seen =
    omega (arith, ap (λ (w : IncumbentId). w.first) c.requires.incumbent.1, c.offered-offered.ensures.at_least_first, c.offered-offered.ensures.at_most_seen) in
    let may : IsAllowed c.self.inside.tree e = may_settle g.N.SearchName.market g.N.SearchName.budget g.N.SearchName.workers g.N.SearchName.incumbent p c.args.ticket.worker c.args.ticket.node seen
    c.args.finding (word_of c.args.ticket.prefix) c.self.invariant.0 above fresh.taken fresh.word_is c.requires.finding in
    let room = has_room g.N.SearchName.market g.N.SearchName.budget g.N.SearchName.workers g.N.SearchName.incumbent p e (unreturned c.self.inside.returned.items) c.self.invariant.0 may
    (settling_paid c.self.inside.tree c.args.ticket.worker c.args.ticket.node seen (unreturned c.self.inside.returned.items) (closing_leaf seen c.args.finding)) in
    omega (arith, room, c.self.inside.journal.ok.0)

pub overflow_sub-self : goal.overflow_sub-self
overflow_sub-self g c =
    let p = pool_of c.self.inside.tree c.self.inside.queue.keys c.self.inside.journal.items
    (vec_capacity c.self.inside.journal) c.self.inside.turns.items c.self.inside.returned.items c.self.inside.seat in
    let seen = c.args.seat.now.seen in
    let e = settling c.self.inside.tree c.args.ticket.worker c.args.ticket.node seen c.args.finding in
    let fresh = subst (λ (q : Pooled). IsTakenAt q c.args.ticket.node c.args.ticket.turn c.args.ticket.worker (word_of c.args.ticket.prefix)) (sym c.self.view_is)
    (c.is_fresh.ensures.0 c.if-not-is_fresh.false) in
    let above : g.N.SearchName.incumbent.first ≤ seen =
    omega (arith, ap (λ (w : IncumbentId). w.first) c.requires.incumbent.1, c.offered-offered.ensures.at_least_first, c.offered-offered.ensures.at_most_seen) in
    let may : IsAllowed c.self.inside.tree e = may_settle g.N.SearchName.market g.N.SearchName.budget g.N.SearchName.workers g.N.SearchName.incumbent p c.args.ticket.worker c.args.ticket.node seen
    c.args.finding (word_of c.args.ticket.prefix) c.self.invariant.0 above fresh.taken fresh.word_is c.requires.finding in
    omega (arith, taken_after c.self.inside.tree e may, settling_comes c.self.inside.tree c.args.ticket.worker c.args.ticket.node seen (closing_leaf seen c.args.finding), c.self.invariant.1)

pub invariant_of-self : goal.invariant_of-self
invariant_of-self g c =
    let p = pool_of c.self.inside.tree c.self.inside.queue.keys c.self.inside.journal.items
    (vec_capacity c.self.inside.journal) c.self.inside.turns.items c.self.inside.returned.items c.self.inside.seat in
    let seen = c.args.seat.now.seen in
    let e = settling c.self.inside.tree c.args.ticket.worker c.args.ticket.node seen c.args.finding in
    let fresh = subst (λ (q : Pooled). IsTakenAt q c.args.ticket.node c.args.ticket.turn c.args.ticket.worker (word_of c.args.ticket.prefix)) (sym c.self.view_is)
    (c.is_fresh.ensures.0 c.if-not-is_fresh.false) in
    let above : g.N.SearchName.incumbent.first ≤ seen =
    omega (arith, ap (λ (w : IncumbentId). w.first) c.requires.incumbent.1, c.offered-offered.ensures.at_least_first, c.offered-offered.ensures.at_most_seen) in
    let may : IsAllowed c.self.inside.tree e = may_settle g.N.SearchName.market g.N.SearchName.budget g.N.SearchName.workers g.N.SearchName.incumbent p c.args.ticket.worker c.args.ticket.node seen
    c.args.finding (word_of c.args.ticket.prefix) c.self.invariant.0 above fresh.taken fresh.word_is c.requires.finding in
    let change : c.settle.new.self ≡ grown c.self.inside.tree e =
    c.in-Ok.ensures.change ∙ ap (λ (n : ℕ). grown c.self.inside.tree (settling c.self.inside.tree c.args.ticket.worker c.args.ticket.node n c.args.finding)) c.seen-cutoff.ensures.seen in
    let entry : c.in-Ok.entry ≡ in_journal e =
    c.in-Ok.ensures.entry ∙ ap (λ (n : ℕ). in_journal (settling c.self.inside.tree c.args.ticket.worker c.args.ticket.node n c.args.finding)) c.seen-cutoff.ensures.seen in
    let count : c.len-nodes.result ≡ length (grown c.self.inside.tree e).nodes = c.len-nodes.ensures.len ∙ ap (λ (t : Grown). length t.nodes) change in
    let q = c.self.inside.queue in
    let r = c.follow.new.self in
    let follows : Follows (child_key c.args.finding) (length (grown c.self.inside.tree e).nodes) q r (in_journal e) =
    subst (Follows (child_key c.args.finding) (length (grown c.self.inside.tree e).nodes) q r) entry
    (subst (λ (n : ℕ). Follows (child_key c.args.finding) n q r c.in-Ok.entry) count
    (subst (λ (k : ℕ). Follows k c.len-nodes.result q r c.in-Ok.entry) c.child_key-key.ensures c.follow.ensures)) in
    let followed : IsFollowed c.self.inside.tree e (child_key c.args.finding) q r = follows_kept c.self.inside.tree e (child_key c.args.finding) q r
    (settling_comes c.self.inside.tree c.args.ticket.worker c.args.ticket.node seen (closing_leaf seen c.args.finding)) c.self.invariant.2 may follows in
    let seat : c.meet.new.into ≡ seat_view c.self.inside.seat.incumbent (max c.self.inside.seat.seen seen) c.self.inside.seat.offered c.self.inside.seat.parts =
    c.meet.ensures.into ∙ ap (λ (n : ℕ). seat_view c.args.incumbent.now n c.self.inside.seat.offered c.self.inside.seat.parts) c.meet.ensures.greater
    ∙ ap (λ (w : IncumbentId). seat_view w (max c.self.inside.seat.seen seen) c.self.inside.seat.offered c.self.inside.seat.parts) (c.requires.incumbent.0 ∙ sym c.self.invariant.0.fresh.0) in (
      pool_same g.N.SearchName.market g.N.SearchName.budget g.N.SearchName.workers g.N.SearchName.incumbent (grown c.self.inside.tree e)
          c.settle.new.self (keys_after c.self.inside.tree e q.keys (child_key c.args.finding)) r.keys (c.self.inside.journal.items ++ in_journal e ∷ [])
          c.push_reserved.new.self.items (vec_capacity c.self.inside.journal) (vec_capacity c.push_reserved.new.self) c.self.inside.turns.items
          c.self.inside.returned.items _ c.meet.new.into
          change followed.keys (c.push_reserved.ensures.items ∙ ap (λ (j : JournalEntry). c.self.inside.journal.items ++ j ∷ []) entry) c.push_reserved.ensures.capacity seat
          (settle_keeps g.N.SearchName.market g.N.SearchName.budget g.N.SearchName.workers g.N.SearchName.incumbent p c.args.ticket.worker c.args.ticket.node seen
          c.args.finding c.self.invariant.0 may),
      omega (
        arith,
        ap (λ (t : Grown). taken_among t.nodes) change,
        taken_after c.self.inside.tree e may,
        settling_comes c.self.inside.tree c.args.ticket.worker c.args.ticket.node seen (closing_leaf seen c.args.finding),
        c.self.invariant.1,
      ),
      subst (λ (t : Grown). IsQueueOf t.nodes r) (sym change) followed.queue,
      followed.room ∙ c.self.invariant.3 ∙ sym (ap (λ (t : Grown). t.budget) change ∙ grown_budget c.self.inside.tree e),
    )

pub returns-clause-settled : goal.returns-clause-settled
returns-clause-settled g c = λ _.
    let p = pool_of c.self.inside.tree c.self.inside.queue.keys c.self.inside.journal.items
    (vec_capacity c.self.inside.journal) c.self.inside.turns.items c.self.inside.returned.items c.self.inside.seat in
    let seen = c.args.seat.now.seen in
    let e = settling c.self.inside.tree c.args.ticket.worker c.args.ticket.node seen c.args.finding in
    let fresh = subst (λ (q : Pooled). IsTakenAt q c.args.ticket.node c.args.ticket.turn c.args.ticket.worker (word_of c.args.ticket.prefix)) (sym c.self.view_is)
    (c.is_fresh.ensures.0 c.if-not-is_fresh.false) in
    let above : g.N.SearchName.incumbent.first ≤ seen =
    omega (arith, ap (λ (w : IncumbentId). w.first) c.requires.incumbent.1, c.offered-offered.ensures.at_least_first, c.offered-offered.ensures.at_most_seen) in
    let may : IsAllowed c.self.inside.tree e = may_settle g.N.SearchName.market g.N.SearchName.budget g.N.SearchName.workers g.N.SearchName.incumbent p c.args.ticket.worker c.args.ticket.node seen
    c.args.finding (word_of c.args.ticket.prefix) c.self.invariant.0 above fresh.taken fresh.word_is c.requires.finding in
    let change : c.settle.new.self ≡ grown c.self.inside.tree e =
    c.in-Ok.ensures.change ∙ ap (λ (n : ℕ). grown c.self.inside.tree (settling c.self.inside.tree c.args.ticket.worker c.args.ticket.node n c.args.finding)) c.seen-cutoff.ensures.seen in
    let entry : c.in-Ok.entry ≡ in_journal e =
    c.in-Ok.ensures.entry ∙ ap (λ (n : ℕ). in_journal (settling c.self.inside.tree c.args.ticket.worker c.args.ticket.node n c.args.finding)) c.seen-cutoff.ensures.seen in
    let count : c.len-nodes.result ≡ length (grown c.self.inside.tree e).nodes = c.len-nodes.ensures.len ∙ ap (λ (t : Grown). length t.nodes) change in
    let q = c.self.inside.queue in
    let r = c.follow.new.self in
    let follows : Follows (child_key c.args.finding) (length (grown c.self.inside.tree e).nodes) q r (in_journal e) =
    subst (Follows (child_key c.args.finding) (length (grown c.self.inside.tree e).nodes) q r) entry
    (subst (λ (n : ℕ). Follows (child_key c.args.finding) n q r c.in-Ok.entry) count
    (subst (λ (k : ℕ). Follows k c.len-nodes.result q r c.in-Ok.entry) c.child_key-key.ensures c.follow.ensures)) in
    let followed : IsFollowed c.self.inside.tree e (child_key c.args.finding) q r = follows_kept c.self.inside.tree e (child_key c.args.finding) q r
    (settling_comes c.self.inside.tree c.args.ticket.worker c.args.ticket.node seen (closing_leaf seen c.args.finding)) c.self.invariant.2 may follows in
    let seat : c.meet.new.into ≡ seat_view c.self.inside.seat.incumbent (max c.self.inside.seat.seen seen) c.self.inside.seat.offered c.self.inside.seat.parts =
    c.meet.ensures.into ∙ ap (λ (n : ℕ). seat_view c.args.incumbent.now n c.self.inside.seat.offered c.self.inside.seat.parts) c.meet.ensures.greater
    ∙ ap (λ (w : IncumbentId). seat_view w (max c.self.inside.seat.seen seen) c.self.inside.seat.offered c.self.inside.seat.parts) (c.requires.incumbent.0 ∙ sym c.self.invariant.0.fresh.0) in
    pool_parts (grown c.self.inside.tree e) c.settle.new.self (keys_after c.self.inside.tree e q.keys (child_key c.args.finding)) r.keys
    (c.self.inside.journal.items ++ in_journal e ∷ []) c.push_reserved.new.self.items (vec_capacity c.self.inside.journal)
    (vec_capacity c.push_reserved.new.self) c.self.inside.turns.items c.self.inside.returned.items _ c.meet.new.into
    change followed.keys (c.push_reserved.ensures.items ∙ ap (λ (j : JournalEntry). c.self.inside.journal.items ++ j ∷ []) entry) c.push_reserved.ensures.capacity seat
    ∙ ap (λ (k : Pooled). settled_with k c.args.ticket.worker c.args.ticket.node seen c.args.finding) c.self.view_is

pub returns-clause-answer : goal.returns-clause-answer
returns-clause-answer g c = λ _.
    let seen = c.args.seat.now.seen in
    let t = c.self.inside.tree in
    let e = settling t c.args.ticket.worker c.args.ticket.node seen c.args.finding in
    let entry : c.in-Ok.entry ≡ in_journal e = c.in-Ok.ensures.entry ∙ ap (λ (n : ℕ). in_journal (settling t c.args.ticket.worker c.args.ticket.node n c.args.finding)) c.seen-cutoff.ensures.seen in
    let change : c.settle.new.self ≡ grown t e = c.in-Ok.ensures.change ∙ ap (λ (n : ℕ). grown t (settling t c.args.ticket.worker c.args.ticket.node n c.args.finding)) c.seen-cutoff.ensures.seen in
    let answer : c.match-entry.result ≡ answer_of t e = elim c.match-entry.branch [
      | in-Close w ↦ w.result-is ∙ sym (answer_close t e _ _ _ (sym entry ∙ w.in-Close.is))
      | in-Branch w ↦ w.result-is ∙ sym (answer_branch t e _ _ _ (sym entry ∙ w.in-Branch.is))
      | in-Full w ↦ w.result-is ∙ ap (λ (n : ℕ). settled.Full n) (c.len-nodes.ensures.len ∙ ap (λ (s : Grown). length s.nodes) change) ∙ sym (answer_full t e _ _ _ (sym entry ∙ w.in-Full.is))
    ] in
    answer ∙ ap (λ (q : Pooled). answer_of q.tree (settling q.tree c.args.ticket.worker c.args.ticket.node seen c.args.finding)) c.self.view_is
