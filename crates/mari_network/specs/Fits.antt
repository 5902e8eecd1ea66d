-- Slots that a network may have.
use Rattle.std.specs.Prelude.{ℕ, ◌<◌}
use Rattle.mari_network.specs.declared.slots.Slot.{Slot}
use Rattle.mari_network.specs.Slots.{IsSmallSlot}

-- a slot of a network
pub record IsNetworkSlot (n : ℕ) (s : Slot) : Type 0 where
  pub zone : s.zone < n
  pub small : IsSmallSlot s
