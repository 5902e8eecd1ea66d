use Rattle.std.proofs.Common.{◌≡◌, ◌<◌, ◌*◌, ℕ, length, take}
use Rattle.std.specs.List.{All}
use Rattle.mari_paths.specs.Merit.{reach_at, IsReach, IsReachOf}
use Rattle.mari_paths.proofs.merit.widen_all.Given as goal

abbrev pub invariant-loop-border : goal.invariant-loop-border
invariant-loop-border l = record {
  long : length l.reaches ≡ length l.fn.reaches;
  reaches : All (IsReach (400000 * l.border-index)) l.reaches;
  each : (z : ℕ) → z < length l.fn.reaches → IsReachOf (take l.border-index l.borders) z (reach_at l.reaches z);
}
