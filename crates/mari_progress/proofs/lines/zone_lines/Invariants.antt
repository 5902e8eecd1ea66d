use Rattle.std.proofs.Common.{◌≡◌, map, take}
use Rattle.mari_lines.specs.declared.line.ZoneLine.{ZoneLine}
use Rattle.mari_progress.proofs.lines.zone_lines.Given as goal

-- the lines of the zones before this one
abbrev pub invariant-loop-zone : goal.invariant-loop-zone
invariant-loop-zone l = record {
  names : map (λ (x : ZoneLine). x.name) l.lines.items ≡ take l.zone l.zones;
  prices : map (λ (x : ZoneLine). x.price) l.lines.items ≡ take l.zone l.published;
  least : map (λ (x : ZoneLine). x.least) l.lines.items ≡ take l.zone l.least;
  greatest : map (λ (x : ZoneLine). x.greatest) l.lines.items ≡ take l.zone l.greatest;
  areas : map (λ (x : ZoneLine). x.area) l.lines.items ≡ take l.zone l.areas;
}
