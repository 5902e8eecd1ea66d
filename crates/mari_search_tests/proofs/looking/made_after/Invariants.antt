use Rattle.mari_search_tests.proofs.looking.made_after.Given as goal

-- the search of the one worker
abbrev pub ghosts-made : goal.ghosts-made
ghosts-made g a = record { incumbent = a.incumbent.now; market = a.market.now; budget = 3; workers = 1 }
