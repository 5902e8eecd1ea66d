-- What each worker of a search starts with.
use Rattle.std.specs.Prelude.{ℕ, ◌<◌}
use Rattle.mari_incumbent.specs.Incumbent.{IncumbentId, IsFresh}
use Rattle.mari_workers.specs.declared.seats.Seated.{Seated}

-- a worker's number and a fresh seat
abbrev pub IsSeated : IncumbentId → ℕ → Seated → Type 0
IsSeated incumbent workers one = IsFresh incumbent one.seat × (one.worker < workers)
