use Rattle.mari_reach.proofs.LoneTables.{pairs_more}
use Rattle.mari_reach.proofs.ranks.Lone.mark_twins.Goals as goal

pub loop-other-preserved : goal.loop-other-preserved
loop-other-preserved c = record {
  kept = λ g e. c.mark_pair.ensures.kept g (c.loop-other.invariant.kept g e);
  pairs = pairs_more c.args.self.now c.loop-other.twinned c.mark_pair.new.twinned c.args.gate c.loop-other.other c.mark_pair.ensures.kept c.loop-other.invariant.pairs c.mark_pair.ensures.pair;
}
