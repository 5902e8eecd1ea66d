use Rattle.std.proofs.Common.{arith}
use Rattle.mari_pool.proofs.queue.Queue.len.Goals as goal

pub overflow_cast-result : goal.overflow_cast-result
overflow_cast-result c = omega (arith, c.len.ensures, c.self.inside.keys.ok.0, c.self.invariant.2, c.self.invariant.3)
