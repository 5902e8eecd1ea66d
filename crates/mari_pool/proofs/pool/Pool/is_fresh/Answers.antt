use Rattle.std.proofs.Common.{arith}
use Rattle.mari_core.proofs.Entries.{within_nodes}
use Rattle.mari_pool.proofs.pool.Pool.is_fresh.Goals as goal

pub index-requires : goal.index-requires
index-requires g c = grind (arith, within_nodes)
