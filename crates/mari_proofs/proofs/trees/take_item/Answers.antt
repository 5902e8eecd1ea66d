use Rattle.mari_market.specs.Prefix.{word_of}
use Rattle.mari_market.specs.Tree.{LeafHoldsFor}
use Rattle.mari_proofs.proofs.TreeWalk.{full_branch, branch_fits}
use Rattle.mari_proofs.proofs.trees.take_item.Goals as goal

pub returns-in-Branch : goal.returns-in-Branch
returns-in-Branch c = full_branch c.args.market.now c.args.prefix.now c.args.item.now _ c.in-Branch.is c.as_slice.ensures c.if-prefix-as_slice.true

pub returns-in-Branch-2 : goal.returns-in-Branch-2
returns-in-Branch-2 c =
    branch_fits c.args.market.now (LeafHoldsFor c.args.market.now c.args.cutoff.0 (word_of c.args.word.now)) c.args.prefix.now c.child_of.result
    c.args.item.now _ c.in-Branch-2.is c.as_slice.ensures c.if-prefix-as_slice.false c.requires.prefix c.child_of.ensures.word
    c.child_of.ensures.cleared
