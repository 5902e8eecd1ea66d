use Rattle.std.proofs.Common.{◌≡◌, ◌⊎◌, ◌*◌, ◌+◌, ◌<◌, ℕ, length}
use Rattle.std.specs.List.{Contains}
use Rattle.mari_market.specs.Sums.{sum_along, int_at}
use Rattle.mari_network.specs.Slots.{slot_at, slot_gain, slot_into, zone_of}
use Rattle.mari_paths.specs.Starts.{AreFilled, StandInsNear}
use Rattle.mari_paths.proofs.Bounded.{slot_in, IsAhead}
use Rattle.mari_paths.proofs.changes.change_slots.Given as goal

abbrev pub invariant-loop-place : goal.invariant-loop-place
invariant-loop-place l = record {
  filled : AreFilled l.market l.slots l.amounts;
  near : StandInsNear (700000000 + 200000 * l.place-index) l.market l.amounts;
  worth : l.worth ≡ sum_along slot_gain l.slots l.amounts;
  into : (z : ℕ) → sum_along (slot_into z) l.slots l.amounts ≡ sum_along (slot_into z) l.fn.slots l.fn.amounts;
  zones : (k : ℕ) → zone_of l.slots k ≡ zone_of l.fn.slots k;
  rest : (k : ℕ) → k < length l.market.orders → IsAhead l.gated l.place-index k ⊎ (slot_at l.slots k ≡ slot_in l.market l.prefix k);
  others : (k : ℕ) → k < length l.market.orders → (Contains l.gated k → ⊥) → (slot_at l.slots k ≡ slot_at l.fn.slots k) × (int_at l.amounts k ≡ int_at l.fn.amounts k);
}
