use Rattle.mari_search_tests.proofs.tickets.reported_at.Given as goal

-- the search whose nodes are taken
abbrev pub ghosts-reported_of : goal.ghosts-reported_of
ghosts-reported_of a = record { incumbent = a.incumbent.now; market = a.market.now; budget = a.case.now.budget; workers = a.case.now.workers }
