-- What stands in for a shortage of a zone.
use Rattle.std.proofs.Common.{◌≡◌, Bool, true, false, ℕ, ◌<◌, ℤ, pos, neg_ℤ, ◌≤ℤ◌, ◌<ℤ◌, arith, refl, inl, inr}
use Rattle.std.proofs.lemmas.Int.{ints}
use lib.Signed.{lt_z}
use Rattle.mari_network.specs.declared.slots.Slot.{Slot}
use Rattle.mari_network.specs.declared.slots.TheConstants.{BEYOND}
use Rattle.mari_network.specs.Slots.{IsWithinSlot, most_room}
use Rattle.mari_network.specs.Orders.{IsStandIn, stand_in_if, stand_in_of}
use Rattle.mari_network.specs.Fits.{IsNetworkSlot}

-- what is known of what stands in for a shortage of a zone
pub record StandsIn (z : ℕ) (d : ℤ) (s : Slot) : Type 0 where
  pub zone : s.zone ≡ z
  pub kind : IsStandIn BEYOND s
  pub within : IsWithinSlot s d
  pub network : (n : ℕ) → z < n → neg_ℤ (pos most_room) ≤ℤ d → d ≤ℤ pos most_room → IsNetworkSlot n s

stand_case : (b : Bool) (z : ℕ) (d : ℤ) → (b ≡ true → d <ℤ pos 0) → (b ≡ false → pos 0 ≤ℤ d) → StandsIn z d (stand_in_if b z d)
stand_case true z d l h = record {
  zone = refl;
  kind = inl (refl, refl);
  within = record { least = omega (arith, ints); most = omega (arith, ints, l refl) };
  network = λ n there low high. record { zone = there; small = record { low = low; high = omega (arith, ints); cheap = omega (arith, ints); dear = omega (arith, ints) } };
}
stand_case false z d l h = record {
  zone = refl;
  kind = inr (refl, refl);
  within = record { least = omega (arith, ints, h refl); most = omega (arith, ints) };
  network = λ n there low high. record { zone = there; small = record { low = omega (arith, ints); high = high; cheap = omega (arith, ints); dear = omega (arith, ints) } };
}

pub stands_in : (z : ℕ) (d : ℤ) → StandsIn z d (stand_in_of z d)
stands_in z d = stand_case (lt_z d (pos 0)) z d (λ e. grind (arith, ints)) (λ e. grind (arith, ints))
