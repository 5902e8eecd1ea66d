use Rattle.std.proofs.Common.{◌≡◌, List, [], ap, arith, w64, ◌∙◌}
use Rattle.std.proofs.lemmas.Int.{to_z-of_z, fits_signed_from_abs, ints}
use Rattle.mari_units.specs.declared.numbers.Cents.{Cents}
use Rattle.mari_reach.specs.Values.{dual_in}
use Rattle.mari_reach.proofs.LeafTables.{same_dual}
use Rattle.mari_reach.proofs.RootLaws.{root_bound}
use Rattle.mari_reach.proofs.root.root_value.Goals as goal
use Rattle.mari_reach.proofs.root.root_value.Goals.{After-quarters}

-- the value that the tables give
by_tables : (c : After-quarters) → c.total_value.result ≡ dual_in c.args.market.now c.state_of-state.result c.args.potentials.now.cents
by_tables c = c.total_value.ensures.value ∙ ap (λ (ps : List Cents). dual_in c.args.market.now c.state_of-state.result ps) c.as_slice.ensures

-- the answer is that value
answered : (c : After-quarters) → c.quarters.result.0 ≡ c.total_value.result
answered c = c.quarters.ensures ∙ to_z-of_z w64 c.total_value.result (fits_signed_from_abs w64 c.total_value.result (omega (arith, ints, c.total_value.ensures.low, c.total_value.ensures.high)))

pub returns-clause-value : goal.returns-clause-value
returns-clause-value c = answered c ∙ by_tables c ∙ same_dual c.args.market.now [] c.state_of-state.result c.args.potentials.now.cents c.requires.market c.state_of-state.ensures

pub returns-clause-low : goal.returns-clause-low
returns-clause-low c = omega (arith, ints, answered c, c.total_value.ensures.low)

pub returns-clause-high : goal.returns-clause-high
returns-clause-high c = omega (arith, ints, answered c, c.total_value.ensures.high)

pub returns-clause-holds : goal.returns-clause-holds
returns-clause-holds c = (
  root_bound c.args.market.now c.state_of-state.result c.args.potentials.now.cents c.total_value.result c.quarters.result.0 c.requires.market c.state_of-state.ensures c.requires.potentials
      (by_tables c) (answered c),
  tt,
)
