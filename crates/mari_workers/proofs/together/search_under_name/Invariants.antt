use Rattle.mari_workers.proofs.together.search_under_name.Given as goal

-- the search that was just started
abbrev pub ghosts-search_over_pool : goal.ghosts-search_over_pool
ghosts-search_over_pool g a = record { incumbent = a.incumbent; market = a.market.now; budget = a.budget; workers = a.workers }
