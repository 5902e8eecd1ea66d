use Rattle.std.proofs.Common.{sym, subst}
use Rattle.mari_market.specs.Finding.{IsRelaxedFinding}
use Rattle.mari_node.proofs.Findings.{last_best, last_conflict, last_feasible, AnswersPrices}
use Rattle.mari_node.proofs.node.last_node.Goals as goal

pub contradiction_of-requires-clause-optimum : goal.contradiction_of-requires-clause-optimum
contradiction_of-requires-clause-optimum c = (c.requires.optimum.0, c.requires.optimum.1.optimum)

pub contradiction_of-requires-clause-feasible : goal.contradiction_of-requires-clause-feasible
contradiction_of-requires-clause-feasible c = λ a w. last_feasible c.args.market.now c.requires.optimum.0 c.args.optimum a c.requires.valid c.requires.optimum.1 w

pub returns-in-None : goal.returns-in-None
returns-in-None c = λ word n.
    let m = c.args.market.now in
    let s = c.in_ok-solved.solved in
    let admissible = subst (AnswersPrices m s.activation) c.in-None.is (c.in_ok-chain.ensures s.activation c.in_ok-solved.ensures.activation) in
    subst (IsRelaxedFinding m word) (sym c.best_of.ensures) (last_best m word c.args.optimum s c.requires.valid n (record {
      activation = c.in_ok-solved.ensures.activation;
      potentials = c.in_ok-solved.ensures.potentials;
      welfare = c.in_ok-solved.ensures.welfare;
    }) admissible)

pub returns-in_ok-conflict_by-in-Some : goal.returns-in_ok-conflict_by-in-Some
returns-in_ok-conflict_by-in-Some c = λ word n.
    let m = c.args.market.now in
    let s = c.in_ok-solved.solved in
    let contradictory = subst (AnswersPrices m s.activation) c.in-Some.is (c.in_ok-chain.ensures s.activation c.in_ok-solved.ensures.activation) in
    subst (IsRelaxedFinding m word) (sym c.in_ok-conflict_by-in-Some.ensures) (last_conflict m word c.args.optimum s c.in-Some.chain c.requires.valid n (record {
      activation = c.in_ok-solved.ensures.activation;
      potentials = c.in_ok-solved.ensures.potentials;
      welfare = c.in_ok-solved.ensures.welfare;
    }) contradictory)
