use Rattle.mari_node.proofs.Running.{feasible_by_gated, partial_at, apart_at}
use Rattle.mari_node.proofs.gates.keeps_gates.Goals as goal

pub returns-in-None : goal.returns-in-None
returns-in-None c = λ a w b. partial_at c.args.market.now c.args.optimum.now a c.args.gated.now c.requires.valid c.requires.gated w c.in-None.ensures.whole

pub returns-then-run_together : goal.returns-then-run_together
returns-then-run_together c = λ a w b.
    feasible_by_gated c.args.market.now c.args.optimum.now a c.args.gated.now c.in-Some.runs c.keep_rules.result c.requires.valid c.requires.gated w b c.in-Some.ensures.runs c.in-Some.ensures.whole
    (c.run_together.ensures.0 c.if-run_together.true) c.keep_rules.ensures

pub returns-else-run_together : goal.returns-else-run_together
returns-else-run_together c = λ a w b.
    apart_at c.args.market.now c.args.optimum.now a c.args.gated.now c.in-Some.runs c.run_together.result c.requires.valid c.requires.gated w c.in-Some.ensures.runs
    c.run_together.ensures c.if-run_together.false
