use Rattle.std.proofs.Common.{◌≡◌, ℕ, ◌<◌, false, None, Some, [], ◌∷◌, ◌++◌, length, set, length-set, arith, refl, sym, ap, subst, ◌∙◌}
use Rattle.std.specs.Prelude.{vec_capacity, slice_get}
use Rattle.mari_market.specs.declared.prefix.Prefix.{Prefix}
use Rattle.mari_market.specs.Prefix.{word_of}
use Rattle.mari_core.specs.declared.node.NodeState.TheVariants.{Untaken, Taken}
use Rattle.mari_core.specs.Nodes.{words_of, state_at}
use Rattle.mari_core.specs.Growth.{Grown, grown, in_journal, take_refused, IsAllowed}
use Rattle.mari_core.specs.Growth.Entry.{Take}
use Rattle.mari_core.proofs.Changes.{length-with_state}
use Rattle.mari_core.proofs.Entries.{within_nodes}
use Rattle.mari_pool.specs.Queued.{IsQueueOf, IsFirstWaiting}
use Rattle.mari_pool.proofs.Queues.{first_waits, first_of_all, has_word, queue_taken}
use Rattle.mari_pool.specs.Pooled.{Pooled, taking, unreturned, taken_among}
use Rattle.mari_pool.specs.Taking.{IsTaken}
use Rattle.mari_pool.proofs.Rooms.{taken_after, taken_few}
use Rattle.mari_pool.proofs.Turns.{turns_take}
use Rattle.mari_pool.proofs.Keeps.{pool_of, pool_parts, pool_same, has_room, entry_keeps}
use Rattle.mari_pool.proofs.pool.Pool.take.Goals as goal

pub push_reserved-requires : goal.push_reserved-requires
push_reserved-requires g c =
    let p = pool_of c.self.inside.tree c.self.inside.queue.keys c.self.inside.journal.items
    (vec_capacity c.self.inside.journal) c.self.inside.turns.items c.self.inside.returned.items c.self.inside.seat in
    let e = Take c.args.worker c.in-Some.node in
    let may : IsAllowed c.self.inside.tree e = first_waits c.self.inside.tree.nodes c.self.inside.queue c.take_first.new.self c.in-Some.node c.self.invariant.2 c.in-Some.ensures in
    let not_full : c.self.inside.tree.full ≡ false = sym c.is_full.ensures.full ∙ c.if-is_full.false in
    let room =
    has_room g.N.SearchName.market g.N.SearchName.budget g.N.SearchName.workers g.N.SearchName.incumbent p e (unreturned c.self.inside.returned.items) c.self.invariant.0 may (not_full, refl) in
    omega (arith, room, c.self.inside.journal.ok.0)

pub index_mut-requires : goal.index_mut-requires
index_mut-requires g c = grind (arith, within_nodes, first_waits)

pub overflow_add-self : goal.overflow_add-self
overflow_add-self g c =
    omega (arith, taken_few c.self.inside.tree.nodes, c.self.invariant.0.grows.within_budget, c.self.invariant.0.grows.budget_is, c.self.invariant.1)

pub invariant_of-self-2 : goal.invariant_of-self-2
invariant_of-self-2 g c =
    let p = pool_of c.self.inside.tree c.self.inside.queue.keys c.self.inside.journal.items
    (vec_capacity c.self.inside.journal) c.self.inside.turns.items c.self.inside.returned.items c.self.inside.seat in
    let e = Take c.args.worker c.in-Some.node in
    let may : IsAllowed c.self.inside.tree e = first_waits c.self.inside.tree.nodes c.self.inside.queue c.take_first.new.self c.in-Some.node c.self.invariant.2 c.in-Some.ensures in
    let not_full : c.self.inside.tree.full ≡ false = sym c.is_full.ensures.full ∙ c.if-is_full.false in
    let within : c.in-Some.node < length c.self.inside.turns.items =
    omega (arith, within_nodes c.self.inside.tree.nodes c.in-Some.node Untaken may, c.self.invariant.0.grows.within_budget, c.self.invariant.0.budget_is, c.self.invariant.0.turns_are) in
    let turn : c.len-turn.result ≡ length c.self.inside.journal.items = omega (arith, c.len-turn.ensures, c.self.inside.journal.ok.0) in
    let change : c.take.new.self ≡ grown c.self.inside.tree e = c.in-Ok.ensures.change in (
      pool_same g.N.SearchName.market g.N.SearchName.budget g.N.SearchName.workers g.N.SearchName.incumbent (grown c.self.inside.tree e)
          c.take.new.self c.self.inside.queue.keys c.take_first.new.self.keys (c.self.inside.journal.items ++ in_journal e ∷ [])
          c.push_reserved.new.self.items (vec_capacity c.self.inside.journal) (vec_capacity c.push_reserved.new.self)
          (set c.self.inside.turns.items c.in-Some.node c.len-turn.result) c.self.inside.returned.items c.self.inside.seat c.self.inside.seat
          change c.in-Some.ensures.keys c.push_reserved.ensures.items c.push_reserved.ensures.capacity refl
          (entry_keeps g.N.SearchName.market g.N.SearchName.budget g.N.SearchName.workers g.N.SearchName.incumbent p e c.self.inside.queue.keys
          (set c.self.inside.turns.items c.in-Some.node c.len-turn.result) c.self.inside.returned.items c.self.invariant.0 may (not_full, refl) tt (c.self.invariant.0.keys_are
          ∙ sym (length-with_state (Taken c.args.worker) c.self.inside.tree.nodes c.in-Some.node)) (length-set c.self.inside.turns.items c.in-Some.node c.len-turn.result) refl
          (turns_take c.self.inside.tree c.args.worker c.in-Some.node c.len-turn.result c.self.inside.turns.items c.self.inside.journal.items within turn c.self.invariant.0.turns_report)),
      omega (arith, ap (λ (t : Grown). taken_among t.nodes) change, taken_after c.self.inside.tree e may, c.self.invariant.1),
      subst (λ (t : Grown). IsQueueOf t.nodes c.take_first.new.self) (sym change)
          (queue_taken c.self.inside.tree.nodes c.self.inside.queue c.take_first.new.self c.in-Some.node c.args.worker c.self.invariant.2 c.in-Some.ensures),
      c.in-Some.ensures.room ∙ c.self.invariant.3 ∙ sym (ap (λ (t : Grown). t.budget) change),
    )

pub invariant_of-self : goal.invariant_of-self
invariant_of-self g c = grind (arith, pool_of)

pub unreachable-requires : goal.unreachable-requires
unreachable-requires g c =
    has_word c.self.inside.tree.nodes c.in-Some.node Untaken
    (first_waits c.self.inside.tree.nodes c.self.inside.queue c.take_first.new.self c.in-Some.node c.self.invariant.2 c.in-Some.ensures)
    (sym c.in_default-prefix_of.ensures.word)

pub unreachable-requires-in_default-take : goal.unreachable-requires-in_default-take
unreachable-requires-in_default-take g c =
    let may : state_at c.self.inside.tree.nodes c.in-Some.node ≡ Some Untaken =
    first_waits c.self.inside.tree.nodes c.self.inside.queue c.take_first.new.self c.in-Some.node c.self.invariant.2 c.in-Some.ensures in
    let refused : take_refused (state_at c.self.inside.tree.nodes c.in-Some.node) ≡ None = ap take_refused may in
    let h = c.in_default-take.ensures.answer in
    absurd (cc)

pub returns : goal.returns
returns g c =
    let t = c.self.inside.tree in
    let q = c.self.inside.queue in
    let r = c.take_first.new.self in
    let node = c.in-Some.node in
    let x = c.new.result in
    let p = pool_of t q.keys c.self.inside.journal.items (vec_capacity c.self.inside.journal) c.self.inside.turns.items c.self.inside.returned.items c.self.inside.seat in
    let e = Take c.args.worker node in
    let journal = c.self.inside.journal.items ++ in_journal e ∷ [] in
    let turns = set c.self.inside.turns.items node c.len-turn.result in
    let new = pool_of c.take.new.self r.keys c.push_reserved.new.self.items (vec_capacity c.push_reserved.new.self) turns c.self.inside.returned.items c.self.inside.seat in
    let turn : c.len-turn.result ≡ length c.self.inside.journal.items = omega (arith, c.len-turn.ensures, c.self.inside.journal.ok.0) in
    let there : slice_get (words_of t.nodes) node ≡ Some (word_of c.in-Some-prefix_of.prefix) = sym c.in-Some-prefix_of.ensures.word in
    let change : new ≡ taking p c.args.worker x.node =
    pool_parts (grown t e) c.take.new.self q.keys r.keys journal c.push_reserved.new.self.items (vec_capacity c.self.inside.journal)
    (vec_capacity c.push_reserved.new.self) turns c.self.inside.returned.items c.self.inside.seat c.self.inside.seat
    c.in-Ok.ensures.change c.in-Some.ensures.keys c.push_reserved.ensures.items c.push_reserved.ensures.capacity refl
    ∙ ap (λ (n : ℕ). pool_of (grown t e) q.keys journal (vec_capacity c.self.inside.journal) (set c.self.inside.turns.items node n) c.self.inside.returned.items c.self.inside.seat) turn
    ∙ ap (λ (n : ℕ). taking p c.args.worker n) (sym c.new.ensures.node) in
    subst (λ (k : Pooled). IsTaken {N = g.row.N.Denot} {g = g.N.SearchName} c.args.worker k new x) c.self.view_is (record {
      not_full = sym c.is_full.ensures.full ∙ c.if-is_full.false;
      waits = subst (λ (n : ℕ). IsFirstWaiting q.keys t.nodes n) (sym c.new.ensures.node) (first_of_all t.nodes q r node c.self.invariant.2 c.in-Some.ensures);
      worker_is = c.new.ensures.worker;
      turn_is = c.new.ensures.turn ∙ turn;
      word_is = ap (λ (n : ℕ). slice_get (words_of t.nodes) n) c.new.ensures.node ∙ there ∙ ap (λ (y : Prefix). Some (word_of y)) (sym c.new.ensures.prefix);
      change = change;
    })
