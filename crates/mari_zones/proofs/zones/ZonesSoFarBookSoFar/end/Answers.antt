use Rattle.std.proofs.Common.{◌≡◌, ◌==◌, false, refl, length, rules, tests}
use Rattle.std.proofs.lemmas.List.{length-map}
use Rattle.mari_zones.specs.Zones.{zone_of}
use Rattle.mari_zones.proofs.zones.ZonesSoFarBookSoFar.end.Goals as goal

pub returns : goal.returns
returns c = λ lines holds.
    let some : (length c.args.self.zones == 0) ≡ false = search (rules, tests) in
    let filled = rw (holds.zones, length-map lines zone_of) at some in
    (rw filled refl, rw (c.of.ensures, holds.operator_of, holds.zones, holds.operators) refl)
