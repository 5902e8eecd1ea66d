use Rattle.std.proofs.Common.{◌≡◌, ◌<◌, ℕ, length, get_or}
use Rattle.mari_network.specs.Margins.{no_margin, IsMarginIn}
use Rattle.mari_network.proofs.renewal.with_stand_ins.Given as goal

abbrev pub invariant-loop-zone : goal.invariant-loop-zone
invariant-loop-zone l = record {
  long : length l.all.items ≡ l.zone;
  each : (z : ℕ) → z < l.zone → IsMarginIn l.network.slots.now l.amounts z (length l.network.slots.now) (get_or l.all.items z no_margin);
}
