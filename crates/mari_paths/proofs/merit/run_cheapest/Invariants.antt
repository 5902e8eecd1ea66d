use Rattle.std.proofs.Common.{◌≡◌, ◌≢◌, ℕ}
use Rattle.std.specs.List.{All, AllZip}
use Rattle.mari_market.specs.Sums.{int_at}
use Rattle.mari_network.specs.declared.network.Rung.{Rung}
use Rattle.mari_network.specs.Slots.{IsWithinSlot}
use Rattle.mari_paths.proofs.Cheapest.{IsHalfway}
use Rattle.mari_paths.proofs.merit.run_cheapest.Given as goal

abbrev pub invariant-loop-rung : goal.invariant-loop-rung
invariant-loop-rung l = record {
  within : AllZip IsWithinSlot l.slots l.amounts;
  halfway : IsHalfway l.slots l.ladder l.more l.left l.rung-index l.amounts;
  others : (k : ℕ) → All (λ (r : Rung). r.place ≢ k) l.ladder → int_at l.amounts k ≡ int_at l.fn.amounts k;
}
