use Rattle.std.proofs.Common.{◌<◌, ℕ, ◌∷◌, length, map, heap_items, IsPermutation, Some, arith, refl, sym, ap, subst, ◌∙◌}
use Rattle.std.proofs.lemmas.List.Sorted.{IsPermutation-map}
use Rattle.std.proofs.lemmas.Option.{slice_get-get_or}
use Rattle.mari_pool.specs.Queued.{Queued, Waiting, number_in, IsBack, IsKeyed}
use Rattle.mari_pool.proofs.Orders.{keyed_joined}
use Rattle.mari_pool.proofs.queue.Queue.put_back.Goals as goal

pub invariant_of-self : goal.invariant_of-self
invariant_of-self c =
    let keys = c.self.inside.keys.items in
    let w : Waiting = (c.index-key.result.now, record { 0 = c.args.node }) in
    let there : c.args.node < length keys = omega (arith, c.requires.there, ap (λ (q : Queued). length q.keys) c.self.view_is) in
    let own : IsKeyed keys w = slice_get-get_or keys c.args.node c.index-key.result.now there ∙ ap (λ (k : ℕ). Some k) (sym c.index-key.ensures) in (
      c.in-Ok.ensures.heap_order c.self.invariant.0,
      keyed_joined keys (heap_items c.self.inside.waiting) (heap_items c.push.new.self) w own c.self.invariant.1 c.in-Ok.ensures.permutation,
      c.self.invariant.2,
      c.self.invariant.3,
      c.self.invariant.4,
      omega (arith, c.push.ensures.capacity, c.self.invariant.5),
    )

pub returns : goal.returns
returns c =
    let old = heap_items c.self.inside.waiting in
    let new = heap_items c.push.new.self in
    let w : Waiting = (c.index-key.result.now, record { 0 = c.args.node }) in
    let joins : IsPermutation (c.args.node ∷ map number_in old) (map number_in new) = IsPermutation-map number_in (w ∷ old) new c.in-Ok.ensures.permutation in
    subst (λ (q : Queued). IsBack q (record { keys = c.self.inside.keys.items; waiting = map number_in new; room = c.self.inside.room }) c.args.node)
    c.self.view_is (record { joins = joins; keys = refl; room = refl })
