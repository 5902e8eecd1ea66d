-- Which incumbent it is, and what contracts see of a seat.
use Rattle.std.specs.Prelude.{◌≡◌, ℕ}
use Rattle.atomic_table.specs.Seated.{TableId}

-- an incumbent of its own, with the number that it starts at and the parts that its seats have in all
pub record IncumbentId : Type 0 where
  pub table : TableId
  pub first : ℕ
  pub all : ℕ

-- a seat: its incumbent, the greatest number that it saw and offered, and its parts
pub record SeatView : Type 0 where
  pub incumbent : IncumbentId
  pub seen : ℕ
  pub offered : ℕ
  pub parts : ℕ

-- a seat of these numbers
abbrev pub seat_view : IncumbentId → ℕ → ℕ → ℕ → SeatView
seat_view incumbent seen offered parts = record { incumbent = incumbent; seen = seen; offered = offered; parts = parts }

-- a seat of the incumbent, of one part, by which nothing was offered
abbrev pub IsFresh : IncumbentId → SeatView → Type 0
IsFresh incumbent seat = (seat.incumbent ≡ incumbent) × (seat.parts ≡ 1) × (seat.offered ≡ incumbent.first)
