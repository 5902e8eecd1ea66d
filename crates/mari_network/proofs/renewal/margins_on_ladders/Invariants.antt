use Rattle.std.proofs.Common.{◌≡◌, ◌<◌, ℕ, length, get_or}
use Rattle.mari_network.specs.Margins.{no_margin, IsMarginIn}
use Rattle.mari_network.proofs.renewal.margins_on_ladders.Given as goal

abbrev pub invariant-loop-zone : goal.invariant-loop-zone
invariant-loop-zone l = record {
  long : length l.margins.items ≡ l.zone;
  each : (z : ℕ) → z < l.zone → IsMarginIn l.network.slots.now l.amounts z l.network.on_ladders (get_or l.margins.items z no_margin);
}
