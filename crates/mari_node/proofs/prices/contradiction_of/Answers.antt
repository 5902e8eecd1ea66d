use Rattle.std.proofs.Common.{ℤ, List, MatchOption, sym, subst}
use Rattle.std.specs.Prelude.{IfOk}
use Rattle.std.proofs.lemmas.Result.{IfOk-from_err}
use Rattle.mari_market.specs.declared.activation.Activation.{Activation}
use Rattle.mari_market.specs.Conflict.{IsContradictoryChain}
use Rattle.mari_market.specs.Optimal.{IsAdmissible}
use Rattle.mari_prices.specs.Ends.{IsBoundedBy}
use Rattle.mari_network.proofs.Written.{some_written}
use Rattle.mari_node.proofs.Findings.{are_prices}
use Rattle.mari_node.proofs.Gated.{written_once}
use Rattle.mari_node.proofs.Paid.{paid_consistent}
use Rattle.mari_node.proofs.Plain.{plain_kept}
use Rattle.mari_node.proofs.prices.contradiction_of.Goals as goal

pub none_loses-requires-clause-potentials : goal.none_loses-requires-clause-potentials
none_loses-requires-clause-potentials c = are_prices c.args.market.now c.requires.optimum.0 c.args.optimum.now c.requires.optimum.1

pub returns-then-none_loses : goal.returns-then-none_loses
returns-then-none_loses c = λ a w.
    paid_consistent c.args.market.now c.requires.optimum.0 c.args.optimum.now a c.args.gated.now c.requires.valid c.requires.gated w (c.requires.feasible a w) (c.requires.optimum.1.solution a w)
    (c.none_loses.ensures.0 c.if-none_loses.true)

pub bounds_from-requires-clause-potentials : goal.bounds_from-requires-clause-potentials
bounds_from-requires-clause-potentials c = are_prices c.args.market.now c.requires.optimum.0 c.args.optimum.now c.requires.optimum.1

pub bounds_from-requires-clause-kept : goal.bounds_from-requires-clause-kept
bounds_from-requires-clause-kept c = plain_kept c.args.market.now c.requires.optimum.0 c.args.optimum.now c.requires.optimum.1

pub contradiction_between-requires-clause-bounded : goal.contradiction_between-requires-clause-bounded
contradiction_between-requires-clause-bounded c =
    let m = c.args.market.now in
    let some = some_written m c.args.optimum.now c.requires.optimum.1.fits in
    let h = c.in_ok-bounds-in-Some.ensures some.0 some.1 (c.requires.feasible some.0 some.1) in
    (some.0, subst (λ (flow : List ℤ). IsBoundedBy m flow c.in_ok-bounds-in-Some.bounds some.0) (sym c.deref.ensures.value) h)

pub returns-in_ok-activation-in-None : goal.returns-in_ok-activation-in-None
returns-in_ok-activation-in-None c = λ a w.
    let m = c.args.market.now in
    let same = written_once m c.args.optimum.now c.in_ok-activation-in-None.activation a c.in_ok-activation-in-None.ensures w in
    subst (λ (b : Activation). IfOk c.contradiction.result (λ chain. MatchOption chain (IsAdmissible m b) (IsContradictoryChain m b))) same c.contradiction.ensures

pub contradiction-requires-clause-feasible : goal.contradiction-requires-clause-feasible
contradiction-requires-clause-feasible c = c.requires.feasible c.in_ok-activation-in-None.activation c.in_ok-activation-in-None.ensures

pub returns-in_err-bounds-in-Some : goal.returns-in_err-bounds-in-Some
returns-in_err-bounds-in-Some c = λ a w. IfOk-from_err c.from_residual.result _ c.from_residual.ensures.0

pub returns-in_err-activation-in-None : goal.returns-in_err-activation-in-None
returns-in_err-activation-in-None c = λ a w. IfOk-from_err c.from_residual-in_err-activation-in-None.result _ c.from_residual-in_err-activation-in-None.ensures.0
