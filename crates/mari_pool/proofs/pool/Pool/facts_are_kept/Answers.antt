use Rattle.std.proofs.Common.{subst}
use Rattle.mari_pool.specs.Pooled.{Pooled, IsPool}
use Rattle.mari_pool.proofs.pool.Pool.facts_are_kept.Goals as goal

pub returns : goal.returns
returns g c = subst (λ (p : Pooled). IsPool g.N.SearchName.market g.N.SearchName.budget g.N.SearchName.workers g.N.SearchName.incumbent p) c.self.view_is c.self.invariant.0
