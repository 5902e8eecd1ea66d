use Rattle.mari_market.specs.Bounds.{span_in}
use Rattle.mari_market.specs.Prefix.{bounds_at}
use Rattle.mari_gates.specs.GateTable.{state_in}
use Rattle.mari_proofs.proofs.CutTests.{cut_test}
use Rattle.mari_proofs.proofs.cuts.is_cut.Goals as goal

pub returns-then-are_rising : goal.returns-then-are_rising
returns-then-are_rising c =
    cut_test (span_in (state_in c.states_at.result)) (bounds_at c.args.market.now c.args.prefix.now) c.args.market.now c.args.cut.now _ _
    c.requires.market c.as_slice-zones.ensures c.states_at.ensures.bounds (c.are_rising.ensures.0 c.if-are_rising.true) c.cannot_balance.ensures
