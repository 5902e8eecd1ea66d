use Rattle.std.proofs.Common.{◌≡◌, map, take}
use Rattle.mari_pool.specs.Queued.{key_of}
use Rattle.mari_pool.proofs.queue.Queue.keys_of.Given as goal

abbrev pub invariant-loop-node : goal.invariant-loop-node
invariant-loop-node l = l.keys.items ≡ map (key_of l.self.keys) (take l.node-index l.nodes)
