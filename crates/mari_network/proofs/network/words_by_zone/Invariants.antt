use Rattle.std.proofs.Common.{◌≡◌, ◌<◌, ℕ, length, get_or, map}
use Rattle.mari_network.specs.Network.{AreRungs}
use Rattle.mari_network.specs.Words.{rung_in}
use Rattle.mari_network.proofs.network.words_by_zone.Given as goal

abbrev pub invariant-loop-place : goal.invariant-loop-place
invariant-loop-place l = record {
  long : length l.words.items ≡ l.zones;
  rungs : (z : ℕ) (d : _) → z < l.zones → AreRungs l.slots l.place z (map rung_in (get_or l.words.items z d).items);
}
