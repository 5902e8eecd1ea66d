use Rattle.std.proofs.Common.{◌≡◌, ℕ, ◌<◌, length, get_or}
use Rattle.mari_prices.specs.Spread.{IsApart}
use Rattle.mari_prices.proofs.spread.first_borders.Given as goal

abbrev pub invariant-loop-i : goal.invariant-loop-i
invariant-loop-i l = record {
  long : length l.firsts.items ≡ l.zones;
  apart : (z j : ℕ) → z < l.zones → j < l.i → j < get_or l.firsts.items z 0 → IsApart z (get_or l.borders j (record { from = 0; to = 0; limit = 0; back = 0 }));
}
