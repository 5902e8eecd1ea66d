use Rattle.std.proofs.Common.{length-append, map, heap_items, arith, refl, subst}
use Rattle.mari_pool.specs.Queued.{Queued, number_in, IsMore}
use Rattle.mari_pool.proofs.Orders.{keyed_more}
use Rattle.mari_pool.proofs.Queues.{more_by_back}
use Rattle.mari_pool.proofs.queue.Queue.add.Goals as goal

pub invariant_of-self : goal.invariant_of-self
invariant_of-self c = grind (arith, heap_items, keyed_more, length-append)

pub put_back-requires : goal.put_back-requires
put_back-requires c = grind (arith, length-append)

pub returns : goal.returns
returns c =
    let old : Queued = record { keys = c.self.inside.keys.items; waiting = map number_in (heap_items c.self.inside.waiting); room = c.self.inside.room } in
    let mid : Queued = record { keys = c.push_reserved.new.self.items; waiting = map number_in (heap_items c.self.inside.waiting); room = c.self.inside.room } in
    subst (λ (q : Queued). IsMore c.args.key 1 q c.put_back.new.self) c.self.view_is
    (more_by_back c.args.key c.len-node.result old mid c.put_back.new.self c.push_reserved.ensures.items refl refl (omega (arith, c.len-node.ensures, c.self.inside.keys.ok.0)) c.put_back.ensures)
