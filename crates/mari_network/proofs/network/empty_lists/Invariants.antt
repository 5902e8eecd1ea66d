use Rattle.std.proofs.Common.{◌≡◌, ◌<◌, ℕ, [], length, get_or}
use Rattle.mari_network.proofs.network.empty_lists.Given as goal

abbrev pub invariant-loop : goal.invariant-loop
invariant-loop g l = record {
  long : length l.lists.items ≡ l.counter;
  none : (z : ℕ) (d : _) → z < l.counter → (get_or l.lists.items z d).items ≡ [];
}
