use Rattle.mari_market.specs.Prefix.{word_of}
use Rattle.mari_market.proofs.Search.{leaf_rises}
use Rattle.mari_proofs.proofs.LeafLaws.{leaf_bounds_below, leaf_excludes}
use Rattle.mari_proofs.proofs.leaves.check_leaf.Goals as goal

pub returns-clause-bounds : goal.returns-clause-bounds
returns-clause-bounds c = λ yes a adm e.
    leaf_bounds_below c.args.market.now c.args.cutoff.0 c.args.prefix.now c.args.prefix.now.length c.args.leaf.now a c.requires.market
    (c.holds_at.ensures.0 yes) adm e

pub returns-clause-excludes : goal.returns-clause-excludes
returns-clause-excludes c = λ yes. leaf_excludes c.args.market.now c.args.cutoff.0 (word_of c.args.prefix.now) c.args.leaf.now c.requires.market (c.holds_at.ensures.0 yes)

pub returns-clause-rises : goal.returns-clause-rises
returns-clause-rises c = λ yes w l. leaf_rises c.args.market.now c.args.cutoff.0 w (word_of c.args.prefix.now) c.args.leaf.now l (c.holds_at.ensures.0 yes)
