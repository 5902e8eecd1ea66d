use Rattle.mari_search_tests.proofs.ExampleSearch.{market_valid, market_closed, first_attained}
use Rattle.mari_search_tests.proofs.machine.new_search.Goals as goal

pub start-requires-clause-market : goal.start-requires-clause-market
start-requires-clause-market c = market_valid c.args.market.now c.requires

pub start-requires-clause-attained : goal.start-requires-clause-attained
start-requires-clause-attained c = first_attained c.args.market.now c.in_ok-first.first c.requires c.in_ok-first.ensures

pub start-requires-clause-closed : goal.start-requires-clause-closed
start-requires-clause-closed c = market_closed c.args.market.now c.in_ok-first.first c.requires c.in_ok-first.ensures
