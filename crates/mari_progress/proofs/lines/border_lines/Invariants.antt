use Rattle.std.proofs.Common.{◌≡◌, map, take}
use Rattle.mari_zones.specs.declared.borders.BorderEnds.{BorderEnds}
use Rattle.mari_lines.specs.declared.line.BorderLine.{BorderLine}
use Rattle.mari_rows.specs.Names.{name_at}
use Rattle.mari_progress.proofs.lines.border_lines.Given as goal

-- the lines of the borders before this one
abbrev pub invariant-loop-border : goal.invariant-loop-border
invariant-loop-border l = record {
  from : map (λ (x : BorderLine). x.from) l.lines.items ≡ map (λ (b : BorderEnds). name_at l.zones b.from) (take l.border l.borders);
  to : map (λ (x : BorderLine). x.to) l.lines.items ≡ map (λ (b : BorderEnds). name_at l.zones b.to) (take l.border l.borders);
  flow : map (λ (x : BorderLine). x.flow) l.lines.items ≡ take l.border l.flow;
  rents : map (λ (x : BorderLine). x.rent) l.lines.items ≡ take l.border l.rents;
}
