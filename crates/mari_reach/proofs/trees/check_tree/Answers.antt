use Rattle.std.proofs.Common.{◌≡◌}
use Rattle.std.specs.Prelude.{Ok}
use Rattle.mari_market.specs.Prefix.{word_of}
use Rattle.mari_proofs.specs.declared.trees.TreeVerdict.TheVariants.{Holds}
use Rattle.mari_reach.specs.Leaf.{ReachLeafHolds}
use Rattle.mari_reach.specs.Tree.{ReachHolds}
use Rattle.mari_reach.proofs.TreeLaws.{tree_bounds, tree_first, tree_is_early, tree_optimal}
use Rattle.mari_reach.proofs.TreeWalk.{shapes, verdicts}
use Rattle.mari_reach.proofs.trees.check_tree.Goals as goal

-- what a verdict that the tree holds says
that_holds : (c : goal.After-walk) → c.walk.result ≡ Ok Holds → ReachHolds c.args.market.now c.args.cutoff.0 (word_of c.args.word.now) c.args.tree.now
that_holds c e = rw e at c.walk.ensures

pub returns-clause-holds : goal.returns-clause-holds
returns-clause-holds c = verdicts c.args.market.now (ReachLeafHolds c.args.market.now c.args.cutoff.0 (word_of c.args.word.now)) c.args.tree.now c.walk.result c.walk.ensures

pub returns-clause-shape : goal.returns-clause-shape
returns-clause-shape c = shapes c.args.market.now (ReachLeafHolds c.args.market.now c.args.cutoff.0 (word_of c.args.word.now)) c.args.tree.now c.walk.result c.walk.ensures

pub returns-clause-bounds : goal.returns-clause-bounds
returns-clause-bounds c = λ e a adm. tree_bounds c.args.market.now c.args.cutoff.0 (word_of c.args.word.now) c.args.tree.now a c.requires.market (that_holds c e) adm

pub returns-clause-optimal : goal.returns-clause-optimal
returns-clause-optimal c = λ e a adm w. tree_optimal c.args.market.now c.args.cutoff.0 (word_of c.args.word.now) c.args.tree.now a c.requires.market (that_holds c e) adm w

pub returns-clause-earlier : goal.returns-clause-earlier
returns-clause-earlier c = λ e a adm before.
    tree_is_early c.args.market.now c.args.cutoff.0 (word_of c.args.word.now) c.args.tree.now a c.requires.market (that_holds c e) adm before

pub returns-clause-first : goal.returns-clause-first
returns-clause-first c = λ e a adm w same. tree_first c.args.market.now c.args.cutoff.0 (word_of c.args.word.now) c.args.tree.now a c.requires.market (that_holds c e) adm w same
