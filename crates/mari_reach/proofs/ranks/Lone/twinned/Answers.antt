use Rattle.mari_reach.proofs.LoneTables.{gates_more}
use Rattle.mari_reach.proofs.ranks.Lone.twinned.Goals as goal

pub loop-gate-preserved : goal.loop-gate-preserved
loop-gate-preserved c = gates_more c.args.self.now c.loop-gate.twinned c.mark_twins.new.twinned c.loop-gate.gate c.mark_twins.ensures.kept c.loop-gate.invariant c.mark_twins.ensures.pairs
