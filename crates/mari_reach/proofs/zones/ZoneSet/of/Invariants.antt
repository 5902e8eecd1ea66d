use Rattle.std.proofs.Common.{◌≡◌, ◌<◌, ℕ, take}
use Rattle.mari_market.specs.Cut.{is_in}
use Rattle.mari_market.specs.Prefix.{opens_in}
use Rattle.mari_reach.proofs.zones.ZoneSet.of.Given as goal

abbrev pub invariant-loop-zone : goal.invariant-loop-zone
invariant-loop-zone l = (z : ℕ) → z < 64 → opens_in l.marks z ≡ is_in (take l.zone-index l.zones) z
