use Rattle.mari_market.specs.Prefix.{word_of}
use Rattle.mari_reach.proofs.LeafLaws.{leaf_bounds, leaf_is_early}
use Rattle.mari_reach.proofs.leaves.check_leaf.Goals as goal

pub returns-clause-bounds : goal.returns-clause-bounds
returns-clause-bounds c = λ yes a ps r.
    leaf_bounds c.args.market.now c.args.cutoff.0 (word_of c.args.word.now) c.args.decisions.now c.args.leaf.now a ps c.requires.market (c.check_leaf_by.ensures.0 yes) r

pub returns-clause-earlier : goal.returns-clause-earlier
returns-clause-earlier c = λ yes a ps r before.
    leaf_is_early c.args.market.now c.args.cutoff.0 (word_of c.args.word.now) c.args.decisions.now c.args.leaf.now a ps c.requires.market (c.check_leaf_by.ensures.0 yes) r before
