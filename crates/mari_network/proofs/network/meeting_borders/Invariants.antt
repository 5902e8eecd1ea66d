use Rattle.std.proofs.Common.{◌≡◌, ◌<◌, ℕ, length, get_or}
use Rattle.mari_network.proofs.Meetings.{AreMeetingTo}
use Rattle.mari_network.proofs.network.meeting_borders.Given as goal

abbrev pub invariant-loop-i : goal.invariant-loop-i
invariant-loop-i l = record {
  long : length l.meeting.items ≡ l.zones;
  meeting : (z : ℕ) (d : _) → z < l.zones → AreMeetingTo l.borders l.i z (get_or l.meeting.items z d).items;
}
