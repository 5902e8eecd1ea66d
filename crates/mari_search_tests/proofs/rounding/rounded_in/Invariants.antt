use Rattle.mari_search_tests.proofs.rounding.rounded_in.Given as goal

-- the search of the one worker
abbrev pub ghosts-worked : goal.ghosts-worked
ghosts-worked g a = record { incumbent = a.incumbent.now; market = a.market.now; budget = 3; workers = 1 }
