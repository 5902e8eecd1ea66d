use Rattle.mari_market.specs.Prefix.{word_of}
use Rattle.mari_reach.proofs.LeafTables.{leaf_by}
use Rattle.mari_reach.proofs.leaves.check_leaf_by.Goals as goal

pub returns : goal.returns
returns c =
    let by = leaf_by c.args.market.now c.args.cutoff.0 (word_of c.args.word.now) c.args.decisions.now c.args.state.now c.args.leaf.now c.requires.market c.requires.state in
    (λ yes. by.0 (c.holds_by.ensures.0 yes), λ h. c.holds_by.ensures.1 (by.1 h))
