use Rattle.std.proofs.Common.{◌∷◌, map, heap_items, All, IsPermutation, arith, refl, subst}
use Rattle.std.proofs.lemmas.List.Sorted.{IsPermutation-map}
use Rattle.mari_pool.specs.Queued.{Queued, Waiting, number_in, IsAhead, LeavesFirst}
use Rattle.mari_pool.proofs.Orders.{first_ahead, keyed_left}
use Rattle.mari_pool.proofs.queue.Queue.take_first.Goals as goal

pub invariant_of-self-2 : goal.invariant_of-self-2
invariant_of-self-2 c = grind (arith, keyed_left, heap_items)

pub returns : goal.returns
returns c =
    let keys = c.self.inside.keys.items in
    let old = heap_items c.self.inside.waiting in
    let new = heap_items c.pop.new.self in
    let w : Waiting = (c.in-Some.field-0-0, c.in-Some.field-0-1) in
    let leaves : IsPermutation (map number_in old) (number_in w ∷ map number_in new) = IsPermutation-map number_in old (w ∷ new) c.in-Some.ensures.permutation in
    let ahead : All (IsAhead keys (number_in w)) (map number_in old) =
    first_ahead keys old new w c.self.invariant.1 c.in-Some.ensures.permutation (c.in-Some.ensures.heap_order c.self.invariant.0).1 in
    subst (λ (q : Queued). LeavesFirst q (record { keys = keys; waiting = map number_in new; room = c.self.inside.room }) (number_in w))
    c.self.view_is (record { leaves = leaves; ahead = ahead; keys = refl; room = refl })
