use Rattle.mari_search_tests.proofs.ExampleSearch.{market_valid, market_closed, first_attained, events_proper, two_proper}
use Rattle.mari_search_tests.proofs.machine.small_search.Goals as goal

pub replay-requires-clause-market : goal.replay-requires-clause-market
replay-requires-clause-market c = market_valid c.args.market.now c.requires

pub replay-requires-clause-attained : goal.replay-requires-clause-attained
replay-requires-clause-attained c = first_attained c.args.market.now c.in_ok-first.first c.requires c.in_ok-first.ensures

pub replay-requires-clause-closed : goal.replay-requires-clause-closed
replay-requires-clause-closed c = market_closed c.args.market.now c.in_ok-first.first c.requires c.in_ok-first.ensures

pub replay-requires-clause-events : goal.replay-requires-clause-events
replay-requires-clause-events c = events_proper c.args.market.now c.in_ok-first.first c.in_ok-events.events.items _ 2 c.requires c.in_ok-first.ensures c.in_ok-events.ensures (two_proper)
