use Rattle.std.proofs.Common.{◌≡◌, ◌⊎◌, ◌<◌, ℕ, length}
use Rattle.mari_network.specs.Slots.{slot_at}
use Rattle.mari_paths.proofs.Bounded.{IsAhead}
use Rattle.mari_paths.proofs.changes.put_back.Given as goal

abbrev pub invariant-loop-place : goal.invariant-loop-place
invariant-loop-place l = record {
  lengths : length l.slots ≡ length l.before;
  rest : (k : ℕ) → k < l.orders → IsAhead l.places l.place-index k ⊎ (slot_at l.slots k ≡ slot_at l.before k);
}
