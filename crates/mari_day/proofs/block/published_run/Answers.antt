use Rattle.std.proofs.Common.{◌^◌, ◌<◌, ◌∙◌, ℕ, refl, arith}
use Rattle.std.proofs.lemmas.Int.{ints}
use Rattle.mari_market.specs.Clearing.{IsClearing}
use Rattle.mari_market.specs.Market.{IsValid}
use Rattle.mari_market.specs.declared.clearing.Clearing.{Clearing}
use Rattle.mari_market.specs.declared.market.Market.{Market}
use Rattle.mari_market.proofs.Sizes.{as_many, welfare_at_most}
use Rattle.mari_day.proofs.Assembles.{published, run-of, reported}
use Rattle.mari_day.proofs.BlockFits.{block-fits, ending-fits, market-fits}
use Rattle.mari_day.proofs.Shapes.{shapes}
use Rattle.mari_day.proofs.block.published_run.Goals as goal

-- the welfare of a clearing fits 63 bits
small-welfare : (m : Market) (budget : ℕ) (k : Clearing) → IsValid m → IsClearing m budget k → k.welfare < 2 ^ 63
small-welfare m budget k v clears = omega (arith, ints, clears.welfare, welfare_at_most m k.activation v clears.first.optimal.admissible.feasible)

pub assemble-requires-clause-there : goal.assemble-requires-clause-there
assemble-requires-clause-there c = rw c.as_slice.ensures c.requires.made.there

pub assemble-requires-clause-shapes : goal.assemble-requires-clause-shapes
assemble-requires-clause-shapes c =
    rw c.as_slice.ensures (shapes c.args.books.now c.args.made c.requires.made _ c.args.clearing c.in-Ok.priced c.in-Ok.ensures c.requires.admissible.feasible)

pub returns-clause-market_fits : goal.returns-clause-market_fits
returns-clause-market_fits c =
    let feasible = c.requires.admissible.feasible in
    let is = rw c.as_slice.ensures at c.in-Ok-assemble.ensures.block in
    let long = as_many c.args.made.market c.args.clearing.activation feasible ∙ c.requires.made.orders in
    let whole = reported c.args.books.now 0 c.args.run c.args.made _ c.args.clearing c.in-Ok.priced c.in-Ok-assemble.done.block is c.in-Ok.ensures long in
    market-fits c.args.books.now c.requires.accepted c.requires.dated 0 c.args.run c.args.made _ c.requires.made c.args.clearing c.in-Ok.priced c.in-Ok-assemble.done.block is
    (shapes c.args.books.now c.args.made c.requires.made _ c.args.clearing c.in-Ok.priced c.in-Ok.ensures feasible) c.in-Ok.ensures feasible whole.names.demands

pub returns-clause-ending_fits : goal.returns-clause-ending_fits
returns-clause-ending_fits c =
    ending-fits c.args.books.now c.requires.accepted c.requires.dated 0 c.args.run c.args.made _ c.requires.made c.args.clearing c.in-Ok.priced c.in-Ok-assemble.done.block
    (rw c.as_slice.ensures at c.in-Ok-assemble.ensures.block)
    (shapes c.args.books.now c.args.made c.requires.made _ c.args.clearing c.in-Ok.priced c.in-Ok.ensures c.requires.admissible.feasible) c.in-Ok.ensures c.requires.admissible.feasible

pub returns-clause-reported : goal.returns-clause-reported
returns-clause-reported c =
    reported c.args.books.now 0 c.args.run c.args.made _ c.args.clearing c.in-Ok.priced c.in-Ok-assemble.done.block (rw c.as_slice.ensures at c.in-Ok-assemble.ensures.block) c.in-Ok.ensures
    (as_many c.args.made.market c.args.clearing.activation c.requires.admissible.feasible ∙ c.requires.made.orders)

pub returns-clause-published : goal.returns-clause-published
returns-clause-published c = λ budget clears.
    published c.args.books.now budget c.args.run c.args.made _ c.args.clearing c.in-Ok.priced c.in-Ok-assemble.done.block
    (rw c.as_slice.ensures at c.in-Ok-assemble.ensures.block) clears c.in-Ok.ensures
    (as_many c.args.made.market c.args.clearing.activation c.requires.admissible.feasible ∙ c.requires.made.orders)

pub returns-clause-fits : goal.returns-clause-fits
returns-clause-fits c = λ budget small clears.
    let feasible = c.requires.admissible.feasible in
    let is = rw c.as_slice.ensures at c.in-Ok-assemble.ensures.block in
    let long = as_many c.args.made.market c.args.clearing.activation feasible ∙ c.requires.made.orders in
    let whole = published c.args.books.now budget c.args.run c.args.made _ c.args.clearing c.in-Ok.priced c.in-Ok-assemble.done.block is clears c.in-Ok.ensures long in
    block-fits c.args.books.now c.requires.accepted c.requires.dated budget c.args.run c.args.made _ c.requires.made c.args.clearing c.in-Ok.priced c.in-Ok-assemble.done.block is
    (shapes c.args.books.now c.args.made c.requires.made _ c.args.clearing c.in-Ok.priced c.in-Ok.ensures feasible) c.in-Ok.ensures feasible
    c.requires.run.0 c.requires.run.1 (small-welfare c.args.made.market budget c.args.clearing c.requires.made.valid clears) small clears whole.names.demands

pub returns-clause-settled : goal.returns-clause-settled
returns-clause-settled c =
    let feasible = c.requires.admissible.feasible in
    run-of c.args.books.now 0 c.args.run c.args.made _ c.args.clearing c.in-Ok.priced c.in-Ok-assemble.done.block (rw c.as_slice.ensures at c.in-Ok-assemble.ensures.block) _ c.in-Ok.ensures
    (shapes c.args.books.now c.args.made c.requires.made _ c.args.clearing c.in-Ok.priced c.in-Ok.ensures feasible) refl c.in-Ok-assemble.ensures.activation refl refl
