use Rattle.mari_market.specs.Prefix.{opens_in}
use Rattle.mari_reach.proofs.Lines.{closed_from, closed_to}
use Rattle.mari_reach.proofs.closing.close_all_below.Goals as goal

pub loop-gate-preserved : goal.loop-gate-preserved
loop-gate-preserved c = record {
  done = closed_to (opens_in c.args.closed.now) (opens_in c.loop-gate.closed) (opens_in c.close_below.new.closed) c.args.gates.now c.loop-gate.gate c.requires.earlier c.loop-gate-test.true
      c.loop-gate.invariant.done c.loop-gate.invariant.left c.close_below.ensures;
  left = closed_from (opens_in c.args.closed.now) (opens_in c.loop-gate.closed) (opens_in c.close_below.new.closed) c.args.gates.now c.loop-gate.gate c.loop-gate.invariant.left c.close_below.ensures;
}
