use Rattle.mari_proofs.proofs.TreeLaws.{shown}
use Rattle.mari_proofs.proofs.trees.check_tree_by.Goals as goal

pub returns : goal.returns
returns c =
    let s = shown c.args.market.now c.args.cutoff.0 c.args.word.now c.args.tree.now c.walk.result c.requires.market c.requires.full c.walk.ensures in
    record { verdict = c.walk.ensures; holds = s.holds; bounds = s.bounds; optimal = s.optimal; earlier = s.earlier; first = s.first }
