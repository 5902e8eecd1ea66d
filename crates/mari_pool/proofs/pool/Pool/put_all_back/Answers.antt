use Rattle.std.proofs.Common.{sym, ◌∙◌, arith}
use Rattle.mari_pool.proofs.Returns.{left_done}
use Rattle.mari_pool.proofs.pool.Pool.put_all_back.Goals as goal

pub returns : goal.returns
returns g c = sym (left_done c.loop-node.self c.loop-node.node (omega (arith, c.loop-node.invariant.many, c.len-node-end.ensures, c.loop-node-test.false))) ∙ c.loop-node.invariant.left
