use Rattle.std.proofs.Common.{◌≡◌, ℕ, ◌-◌, ◌<◌, vec_len}
use Rattle.std.specs.Prelude.{slice_index_or}
use Rattle.mari_incumbent.specs.Incumbent.{seat_view}
use Rattle.mari_workers.specs.Together.{IsSeated}
use Rattle.mari_workers.specs.declared.seats.Seated.{Seated}
use Rattle.mari_workers.proofs.seats.seated_of.Given as goal

abbrev pub invariant-loop-worker : goal.invariant-loop-worker
invariant-loop-worker l = record {
  mine : l.mine ≡ seat_view l.incumbent l.initial.mine.seen l.initial.mine.offered (l.initial.mine.parts - l.worker);
  len : vec_len l.seated ≡ l.worker;
  seated : (i : ℕ) (d : Seated) → i < l.worker → IsSeated l.incumbent l.workers (slice_index_or l.seated.items i d);
}
