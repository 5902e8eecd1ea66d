use Rattle.std.proofs.Common.{◌∙◌}
use Rattle.std.proofs.lemmas.Bool.{both_ways}
use Rattle.std.proofs.lemmas.Slice.Zip.{AllZip-long}
use Rattle.mari_market.specs.declared.market.Market.{Market}
use Rattle.mari_market.specs.declared.activation.Activation.{Activation}
use Rattle.mari_market.specs.Activation.{HasLengths}
use Rattle.mari_market.specs.Optimal.{IsFeasible}
use Rattle.mari_welfare.proofs.feasibility.is_feasible.Goals as goal
use Rattle.mari_welfare.proofs.feasibility.is_feasible.Goals.{then-has_lengths, else-has_lengths}

lengths : (m : Market) (a : Activation) → IsFeasible m a → HasLengths m a
lengths m a f = record { orders = AllZip-long _ m.orders a.mw f.orders; borders = AllZip-long _ m.borders a.flow f.borders }

pub returns-else-orders_and_gates_fit : goal.returns-else-orders_and_gates_fit
returns-else-orders_and_gates_fit c = (
  λ t. absurd (both_ways c.if-has_lengths.value c.if-orders_and_gates_fit.false t),
  λ f. elim c.if-has_lengths.branch [
    | then-has_lengths w ↦ w.value-is ∙ w.orders_and_gates_fit.ensures.1 (record { orders = f.orders; gates = f.gates })
    | else-has_lengths w ↦ absurd (both_ways c.has_lengths.result w.if-has_lengths.false (c.has_lengths.ensures.1 (lengths c.args.market.now c.args.activation.now f)))
  ],
)
