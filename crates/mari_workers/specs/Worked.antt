-- What a worker has when it ends.
use Rattle.std.specs.Prelude.{◌≡◌, ◌≤◌, ℕ, IfSome}
use Rattle.mari_market.specs.declared.market.Market.{Market}
use Rattle.mari_market.specs.declared.finding.Finding.{Finding}
use Rattle.mari_core.specs.Machine.{IsBest}
use Rattle.mari_incumbent.specs.Incumbent.{IncumbentId}
use Rattle.mari_workers.specs.declared.worker.Worked.{Worked}
use Rattle.mari_workers.specs.Alone.{best_in}

-- a seat of the incumbent, and the best of what was offered by it: none exactly where nothing was
pub record HoldsBest (m : Market) (incumbent : IncumbentId) (w : Worked) : Type 0 where
  pub incumbent_is : w.seat.incumbent ≡ incumbent
  pub best : IsBest m incumbent.first w.seat.offered w.best

-- the same with one part, as a worker hands it back
abbrev pub IsWorked : Market → IncumbentId → Worked → Type 0
IsWorked m incumbent w = HoldsBest m incumbent w × (w.seat.parts ≡ 1)

-- what a finding has was seen
abbrev pub IsSeen : ℕ → Finding → Type 0
IsSeen seen finding = IfSome (best_in finding) (λ best. best.welfare ≤ seen)
