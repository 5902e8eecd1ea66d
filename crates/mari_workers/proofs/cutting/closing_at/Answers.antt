use Rattle.mari_market.specs.Prefix.{word_of}
use Rattle.mari_workers.proofs.Cuts.{closed_at}
use Rattle.mari_workers.proofs.cutting.closing_at.Goals as goal

pub returns : goal.returns
returns c =
    closed_at c.args.market.now c.args.welfare (word_of c.args.prefix.now) c.in_ok-finding.finding c.closing_leaf.result
    c.in_ok-finding.ensures.finding c.requires.prefix.word.decided c.closing_leaf.ensures
