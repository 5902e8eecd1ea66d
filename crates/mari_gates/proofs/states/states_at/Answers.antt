use Rattle.std.proofs.Common.{◌∙◌, length, arith, ap}
use Rattle.std.proofs.Math.ListN.{length-set}
use Rattle.mari_market.specs.Prefix.{word_of}
use Rattle.mari_market.proofs.Search.{parents_earlier}
use Rattle.mari_gates.proofs.GateTable.{states_more}
use Rattle.mari_gates.proofs.states.states_at.Goals as goal

pub next_state-requires-clause-earlier : goal.next_state-requires-clause-earlier
next_state-requires-clause-earlier c = rw c.as_slice-gates.ensures (parents_earlier c.args.market.now c.requires.market)

pub loop-gate-preserved : goal.loop-gate-preserved
loop-gate-preserved c = record {
  size = length-set c.loop-gate.states c.loop-gate.gate c.next_state.result ∙ c.loop-gate.invariant.size;
  below = states_more c.as_slice-gates.result.now (word_of c.args.prefix.now) c.loop-gate.states c.loop-gate.gate c.next_state.result
      (omega (arith, ap length c.as_slice-gates.ensures)) c.loop-gate.invariant.below c.next_state.ensures;
}
