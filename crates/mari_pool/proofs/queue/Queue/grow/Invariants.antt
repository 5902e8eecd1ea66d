use Rattle.std.proofs.Common.{◌-◌, ◌≤◌, length}
use Rattle.mari_pool.specs.Queued.{IsMore}
use Rattle.mari_pool.proofs.queue.Queue.grow.Given as goal

abbrev pub invariant-loop : goal.invariant-loop
invariant-loop l = record {
  more : IsMore l.key (l.counter - length l.initial.self.keys) l.initial.self l.self;
  from : length l.initial.self.keys ≤ l.counter;
}
