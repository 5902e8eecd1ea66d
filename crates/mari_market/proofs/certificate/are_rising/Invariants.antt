use Rattle.std.proofs.Common.{◌↔◌, drop}
use Rattle.mari_market.specs.Cut.{IsRising}
use Rattle.mari_market.proofs.certificate.are_rising.Given as goal

-- the zones rise where the rest does from here
abbrev pub invariant-loop-zone : goal.invariant-loop-zone
invariant-loop-zone l = IsRising 0 l.count l.zones ↔ IsRising l.next l.count (drop l.zone-index l.zones)
