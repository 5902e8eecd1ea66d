use Rattle.mari_reach.proofs.TreeLaws.{tree_bounds, tree_first, tree_is_early, tree_optimal}
use Rattle.mari_reach.proofs.laws.by_tree.Goals as goal

pub returns-clause-bounds : goal.returns-clause-bounds
returns-clause-bounds c = λ w word items a h adm. tree_bounds c.args.market.now w word items a c.requires h adm

pub returns-clause-optimal : goal.returns-clause-optimal
returns-clause-optimal c = λ w word items a h adm e. tree_optimal c.args.market.now w word items a c.requires h adm e

pub returns-clause-earlier : goal.returns-clause-earlier
returns-clause-earlier c = λ w word items a h adm b. tree_is_early c.args.market.now w word items a c.requires h adm b

pub returns-clause-first : goal.returns-clause-first
returns-clause-first c = λ w word items a h adm e same. tree_first c.args.market.now w word items a c.requires h adm e same
