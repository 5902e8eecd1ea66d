use Rattle.std.proofs.Common.{◌≡◌, ◌+◌, ◌*◌, ◌≤◌, length}
use Rattle.mari_pool.specs.Pooled.{owed, taken_among, put_back_from}
use Rattle.mari_pool.proofs.pool.Pool.put_all_back.Given as goal

abbrev pub invariant-loop-node : goal.invariant-loop-node
invariant-loop-node g l = record {
  left : put_back_from l.self l.node ≡ put_back_from l.initial.self 0;
  many : length l.self.tree.nodes ≡ length l.initial.self.tree.nodes;
  room : length l.self.journal + owed l.self.tree l.self.returned + 2 * taken_among l.self.tree.nodes ≤ l.self.room;
}
