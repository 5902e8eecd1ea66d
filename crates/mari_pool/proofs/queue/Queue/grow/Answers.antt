use Rattle.std.proofs.Common.{◌+◌, ◌-◌, length, arith}
use Rattle.mari_pool.proofs.Queues.{length_waiting, more_one}
use Rattle.mari_pool.proofs.queue.Queue.grow.Goals as goal

pub add-requires-clause-waiting : goal.add-requires-clause-waiting
add-requires-clause-waiting c = grind (arith, length_waiting)

pub loop-preserved : goal.loop-preserved
loop-preserved c = record {
  more = more_one c.args.key (c.loop.counter - length c.args.self.now.keys)
      (c.loop.counter + 1 - length c.args.self.now.keys) c.args.self.now c.loop.self c.add.new.self c.loop.invariant.more c.add.ensures (omega (arith, c.loop.invariant.from));
  from = omega (arith, c.loop.invariant.from);
}
