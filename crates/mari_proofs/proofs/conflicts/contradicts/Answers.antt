use Rattle.std.proofs.Common.{arith, to_z-of_z, w64, rules}
use Rattle.std.specs.Prelude.{FitsSigned}
use Rattle.mari_market.specs.declared.market.Order.{Order}
use Rattle.mari_market.specs.Bounds.{IsWithin, own_bounds}
use Rattle.mari_proofs.proofs.GateWords.{lengths_read, length_of_word, all_decided}
use Rattle.mari_proofs.proofs.ConflictTests.{contradiction_test}
use Rattle.mari_proofs.proofs.conflicts.contradicts.Goals as goal

pub least_upper-upper-requires-clause-lengths : goal.least_upper-upper-requires-clause-lengths
least_upper-upper-requires-clause-lengths c =
    lengths_read (λ (o : Order) q. IsWithin (own_bounds c.args.market.now c.args.activation.now o) q) c.args.market.now.orders _
    c.args.activation.now.mw _ c.requires.activation.feasible.orders c.as_slice-orders.ensures c.as_slice-mw.ensures

pub least_upper-upper-requires-clause-orders : goal.least_upper-upper-requires-clause-orders
least_upper-upper-requires-clause-orders c =
    all_decided c.args.market.now c.args.prefix.now.length _ c.requires.market c.as_slice-orders.ensures
    (length_of_word c.args.market.now c.args.prefix.now c.args.activation.now c.requires.activation.gates)

pub least_upper-upper-requires-clause-few : goal.least_upper-upper-requires-clause-few
least_upper-upper-requires-clause-few c = omega (arith, length_of_word c.args.market.now c.args.prefix.now c.args.activation.now c.requires.activation.gates, c.requires.market.few_gates)

pub greatest_lower-lower-requires-clause-lengths : goal.greatest_lower-lower-requires-clause-lengths
greatest_lower-lower-requires-clause-lengths c =
    lengths_read (λ (o : Order) q. IsWithin (own_bounds c.args.market.now c.args.activation.now o) q) c.args.market.now.orders _
    c.args.activation.now.mw _ c.requires.activation.feasible.orders c.as_slice-orders.ensures c.as_slice-mw.ensures

pub greatest_lower-lower-requires-clause-orders : goal.greatest_lower-lower-requires-clause-orders
greatest_lower-lower-requires-clause-orders c =
    all_decided c.args.market.now c.args.prefix.now.length _ c.requires.market c.as_slice-orders.ensures
    (length_of_word c.args.market.now c.args.prefix.now c.args.activation.now c.requires.activation.gates)

pub greatest_lower-lower-requires-clause-few : goal.greatest_lower-lower-requires-clause-few
greatest_lower-lower-requires-clause-few c = omega (arith, length_of_word c.args.market.now c.args.prefix.now c.args.activation.now c.requires.activation.gates, c.requires.market.few_gates)

pub returns : goal.returns
returns c =
    let upper_fits : FitsSigned w64 c.least_upper-upper.result = search rules in
    let lower_fits : FitsSigned w64 c.greatest_lower-lower.result = search rules in
    let test = rw (to_z-of_z upper_fits, to_z-of_z lower_fits) at c.is_below.ensures in
    contradiction_test c.args.market.now c.args.prefix.now c.args.activation.now _ _ c.args.first c.args.last _ _ _ c.requires.market
    c.requires.activation c.as_slice-orders.ensures c.as_slice-mw.ensures c.least_upper-upper.ensures c.greatest_lower-lower.ensures test
