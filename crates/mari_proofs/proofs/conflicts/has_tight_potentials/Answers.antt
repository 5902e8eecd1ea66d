use Rattle.mari_gates.specs.GateTable.{state_in}
use Rattle.mari_market.specs.declared.market.Order.{Order}
use Rattle.mari_market.specs.Activation.{IsWithinLimits}
use Rattle.mari_market.specs.Bounds.{IsWithin, span_in, own_bounds}
use Rattle.mari_proofs.proofs.ConflictTests.{tight_test}
use Rattle.std.proofs.lemmas.Slice.Zip.{AllZip-long}
use Rattle.mari_proofs.proofs.conflicts.has_tight_potentials.Goals as goal

pub is_tight-requires-clause-mw : goal.is_tight-requires-clause-mw
is_tight-requires-clause-mw c =
    AllZip-long (λ (o : Order) q. IsWithin (own_bounds c.args.market.now c.args.activation.now o) q) c.args.market.now.orders c.args.activation.now.mw
    c.requires.activation.feasible.orders

pub is_tight-requires-clause-flow : goal.is_tight-requires-clause-flow
is_tight-requires-clause-flow c = AllZip-long IsWithinLimits c.args.market.now.borders c.args.activation.now.flow c.requires.activation.feasible.borders

pub returns-then-are_prices : goal.returns-then-are_prices
returns-then-are_prices c =
    tight_test (span_in (state_in c.states_at.result)) c.args.market.now c.args.prefix.now c.args.activation.now c.args.potentials.now
    c.is_tight.result c.requires.market c.requires.activation c.states_at.ensures.bounds (c.are_prices.ensures.0 c.if-are_prices.true)
    c.is_tight.ensures
