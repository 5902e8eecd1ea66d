use Rattle.std.proofs.Common.{◌≡◌, ◌<◌, ℕ, length, slice_index}
use Rattle.mari_islands.proofs.firsts.own_zones.Given as goal

-- each zone so far has itself
abbrev pub invariant-loop-zone : goal.invariant-loop-zone
invariant-loop-zone l = record {
  long : length l.firsts.items ≡ l.zone;
  own : (z : ℕ) → z < l.zone → slice_index l.firsts.items z ≡ z;
}
