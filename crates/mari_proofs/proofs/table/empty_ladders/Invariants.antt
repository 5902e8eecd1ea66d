use Rattle.std.proofs.Common.{◌≡◌, ◌<◌, ℕ, [], length, get_or}
use Rattle.mari_proofs.proofs.table.empty_ladders.Given as goal

abbrev pub invariant-loop : goal.invariant-loop
invariant-loop l = record {
  long : length l.ladders.items ≡ l.counter;
  none : (z : ℕ) (d : _) → z < l.counter → (get_or l.ladders.items z d).items ≡ [];
}
