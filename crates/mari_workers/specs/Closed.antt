-- What is found with every gate closed.
use Rattle.std.specs.Prelude.{Some, None}
use Rattle.mari_market.specs.declared.market.Market.{Market}
use Rattle.mari_market.specs.declared.finding.Relaxed.{Relaxed}
use Rattle.mari_market.specs.Finding.{IsRelaxedFinding}
use Rattle.mari_market.specs.Relaxation.{all_closed}
use Rattle.mari_workers.specs.declared.first.ClosedOptimum.{ClosedOptimum}

-- an activation and potentials as a finding: the bound is its welfare
abbrev pub closed_finding : ClosedOptimum → Relaxed
closed_finding c = record { potentials = c.potentials; bound = c.first.welfare; best = Some c.first; conflict = None }

-- the best activation with every gate closed: with its potentials it is a finding of that word
abbrev pub IsClosedOptimum : Market → ClosedOptimum → Type 0
IsClosedOptimum m c = IsRelaxedFinding m (all_closed m) (closed_finding c)
