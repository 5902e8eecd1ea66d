use Rattle.std.proofs.Common.{◌≤◌, ◌<◌, ℕ}
use Rattle.mari_network.specs.Network.{rung_at}
use Rattle.mari_network.specs.Slots.{CanMore}
use Rattle.mari_network.proofs.ladders.cheapest_rung.Given as goal

abbrev pub invariant-loop-at : goal.invariant-loop-at
invariant-loop-at l = record {
  none : (j : ℕ) → l.start ≤ j → j < l.at → CanMore l.slots l.amounts (rung_at l.ladder j).place → ⊥;
}
