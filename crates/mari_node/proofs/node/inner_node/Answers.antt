use Rattle.std.proofs.Common.{sym, subst}
use Rattle.mari_market.specs.Finding.{IsRelaxedFinding}
use Rattle.mari_node.proofs.Findings.{contradicts, inner_best, inner_unkept, kept_feasible, unkept_inadmissible, AnswersPrices}
use Rattle.mari_node.proofs.node.inner_node.Goals as goal

pub returns-then-not-keeps_gates-clause-finding : goal.returns-then-not-keeps_gates-clause-finding
returns-then-not-keeps_gates-clause-finding c = λ word n.
    let m = c.args.market.now in
    subst (IsRelaxedFinding m word) (sym c.bound_alone.ensures)
    (inner_unkept m word c.args.optimum n (λ a w. unkept_inadmissible m word c.args.optimum a c.keeps_gates.result n w c.keeps_gates.ensures c.if-not-keeps_gates.true))

pub returns-then-not-keeps_gates-clause-best : goal.returns-then-not-keeps_gates-clause-best
returns-then-not-keeps_gates-clause-best c =
    λ a w adm. absurd (unkept_inadmissible c.args.market.now c.requires.optimum.0 c.args.optimum a c.keeps_gates.result c.requires.optimum.1 w c.keeps_gates.ensures c.if-not-keeps_gates.true adm)

pub contradiction_of-requires-clause-optimum : goal.contradiction_of-requires-clause-optimum
contradiction_of-requires-clause-optimum c = (c.requires.optimum.0, c.requires.optimum.1.optimum)

pub contradiction_of-requires-clause-feasible : goal.contradiction_of-requires-clause-feasible
contradiction_of-requires-clause-feasible c =
    λ a w. kept_feasible c.args.market.now c.requires.optimum.0 c.args.optimum a c.keeps_gates.result c.requires.optimum.1 w c.keeps_gates.ensures c.if-not-keeps_gates.false

pub returns-in_ok-solved-in-None-clause-finding : goal.returns-in_ok-solved-in-None-clause-finding
returns-in_ok-solved-in-None-clause-finding c = λ word n.
    let m = c.args.market.now in
    let s = c.in_ok-solved-in-None.field-0 in
    let is = c.in_ok-solved-in-None.ensures in
    let admissible = subst (AnswersPrices m s.activation) c.in-None.is (c.in_ok-contradiction_of.ensures s.activation is.activation) in
    subst (IsRelaxedFinding m word) (sym c.best_of.ensures) (inner_best m word c.args.optimum s c.requires.valid n (record {
      activation = is.activation;
      potentials = is.potentials;
      welfare = is.welfare;
    }) admissible)

pub returns-in-Some-clause-finding : goal.returns-in-Some-clause-finding
returns-in-Some-clause-finding c = λ word n.
    let m = c.args.market.now in
    subst (IsRelaxedFinding m word) (sym c.bound_alone-in-Some.ensures)
    (inner_unkept m word c.args.optimum n (λ a w. contradicts m a c.in-Some._chain (subst (AnswersPrices m a) c.in-Some.is (c.in_ok-contradiction_of.ensures a w))))

pub returns-in-Some-clause-best : goal.returns-in-Some-clause-best
returns-in-Some-clause-best c = λ a w adm.
    let m = c.args.market.now in
    absurd (contradicts m a c.in-Some._chain (subst (AnswersPrices m a) c.in-Some.is (c.in_ok-contradiction_of.ensures a w)) adm)
