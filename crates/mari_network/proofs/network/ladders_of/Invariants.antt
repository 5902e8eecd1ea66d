use Rattle.std.proofs.Common.{◌≡◌, ◌<◌, ℕ, length, get_or, map}
use Rattle.mari_network.specs.Network.{AreRungs, IsLadder}
use Rattle.mari_network.specs.Words.{rung_in}
use Rattle.mari_network.proofs.network.ladders_of.Given as goal

abbrev pub invariant-loop-zone : goal.invariant-loop-zone
invariant-loop-zone l = record {
  long : length l.words.items ≡ l.zones;
  as_many : length l.ladders.items ≡ l.zone;
  rungs : (z : ℕ) (d : _) → z < l.zones → AreRungs l.slots l.on_ladders z (map rung_in (get_or l.words.items z d).items);
  done : (z : ℕ) (d : _) → z < l.zone → IsLadder l.slots l.on_ladders z (get_or l.ladders.items z d).items;
}
