use Rattle.std.proofs.Common.{subst}
use Rattle.mari_market.specs.SearchTree.{IsLarger}
use Rattle.mari_core.specs.Growth.{Grown}
use Rattle.mari_core.proofs.Seeds.{crowded_is_larger}
use Rattle.mari_core.proofs.growth.Growth.is_full.Goals as goal

pub returns-clause-larger : goal.returns-clause-larger
returns-clause-larger c = λ full. subst (λ (g : Grown). IsLarger g.market g.budget) c.self.view_is (crowded_is_larger _ c.self.invariant.0 (c.self.invariant.0.crowded full))
