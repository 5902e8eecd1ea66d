use Rattle.std.proofs.Common.{◌≡◌, ◌≤◌, ◌<◌, ℕ, true, length, get_or}
use Rattle.std.specs.Prelude.{is_some}
use Rattle.std.specs.List.{All, Contains}
use Rattle.mari_network.specs.Orders.{no_order}
use Rattle.mari_paths.proofs.warm.gated_places.Given as goal

abbrev pub invariant-loop-i : goal.invariant-loop-i
invariant-loop-i l = record {
  there : All (λ k. k < length l.orders) l.places.items;
  few : length l.places.items ≤ l.i;
  only : All (λ k. is_some (get_or l.orders k no_order).gate ≡ true) l.places.items;
  all : (k : ℕ) → k < l.i → is_some (get_or l.orders k no_order).gate ≡ true → Contains l.places.items k;
}
