use Rattle.std.proofs.Common.{◌≡◌, ℕ, ◌+◌, ◌<◌, vec_len}
use Rattle.std.specs.Prelude.{slice_index_or}
use Rattle.mari_workers.specs.Worked.{HoldsBest, IsWorked}
use Rattle.mari_workers.specs.declared.worker.Worked.{Worked}
use Rattle.mari_workers.proofs.seats.gather.Given as goal

abbrev pub invariant-loop-one : goal.invariant-loop-one
invariant-loop-one l = record {
  mine : HoldsBest l.market l.incumbent l.mine;
  parts : l.mine.seat.parts + vec_len l.worked ≡ l.initial.mine.seat.parts + vec_len l.initial.worked;
  each : (i : ℕ) (d : Worked) → i < vec_len l.worked → IsWorked l.market l.incumbent (slice_index_or l.worked.items i d);
}

abbrev pub decreases-loop-one : goal.decreases-loop-one
decreases-loop-one l = vec_len l.worked
