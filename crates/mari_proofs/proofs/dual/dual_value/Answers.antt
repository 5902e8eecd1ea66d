use Rattle.std.proofs.Common.{◌≡◌, ◌≤ℤ◌, ◌∙◌, sym, subst, to_z, of_z, to_z-of_z, rules, ℤ}
use Rattle.std.specs.Int.{w64, w128}
use Rattle.std.specs.Prelude.{FitsSigned}
use Rattle.mari_gates.specs.GateTable.{state_in}
use Rattle.mari_market.specs.Activation.{welfare_of}
use Rattle.mari_market.specs.Bounds.{span_in}
use Rattle.mari_market.specs.Dual.{dual_value_of}
use Rattle.mari_market.specs.Prefix.{bounds_at}
use Rattle.mari_market.proofs.Duality.{weak_duality}
use Rattle.mari_market.proofs.Tight.{tight_is_equal, equal_is_tight}
use Rattle.mari_proofs.proofs.DualSums.{same_value}
use Rattle.mari_proofs.proofs.dual.dual_value.Goals as goal

-- the value that the code has is the dual value
value_is : (c : goal.After-from) → to_z w128 (of_z w128 c.from.result) ≡ dual_value_of (bounds_at c.args.market.now c.args.prefix.now) c.args.market.now c.args.potentials.now.cents
value_is c =
    let total_fits : FitsSigned w64 c.total_value-total.result = search rules in
    let fits : FitsSigned w128 c.from.result = search rules in
    to_z-of_z fits ∙ c.from.ensures ∙ to_z-of_z total_fits
    ∙ same_value (span_in (state_in c.states_at-states.result)) (bounds_at c.args.market.now c.args.prefix.now) c.args.market.now
    c.as_slice.result.now c.args.potentials.now.cents c.total_value-total.result c.requires.market c.total_value-total.ensures c.as_slice.ensures
    c.states_at-states.ensures.bounds

pub returns-clause-value : goal.returns-clause-value
returns-clause-value c = value_is c

pub returns-clause-weak_duality : goal.returns-clause-weak_duality
returns-clause-weak_duality c = λ a w.
    subst (λ (v : ℤ). welfare_of c.args.market.now a ≤ℤ v) (sym (value_is c))
    (weak_duality (bounds_at c.args.market.now c.args.prefix.now) c.args.market.now a c.args.potentials.now.cents c.requires.market w)

pub returns-clause-equal_where_tight : goal.returns-clause-equal_where_tight
returns-clause-equal_where_tight c = λ a w t. tight_is_equal (bounds_at c.args.market.now c.args.prefix.now) c.args.market.now a c.args.potentials.now.cents c.requires.market w t ∙ sym (value_is c)

pub returns-clause-tight_where_equal : goal.returns-clause-tight_where_equal
returns-clause-tight_where_equal c = λ a w e. equal_is_tight (bounds_at c.args.market.now c.args.prefix.now) c.args.market.now a c.args.potentials.now.cents c.requires.market w (e ∙ value_is c)
