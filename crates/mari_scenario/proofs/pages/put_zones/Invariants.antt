use Rattle.std.proofs.Common.{◌≡◌, ◌++◌}
use Rattle.mari_scenario.specs.Draws.{lines}
use Rattle.mari_scenario.specs.Pages.{zone_line}
use Rattle.mari_scenario.proofs.pages.put_zones.Given as goal

-- the lines so far, and the state after them
abbrev pub invariant-loop-i : goal.invariant-loop-i
invariant-loop-i l = record {
  text : l.out.items ≡ l.initial.out.items ++ (lines zone_line l.i 0).text;
  state : l.state ≡ (lines zone_line l.i 0).state;
}
