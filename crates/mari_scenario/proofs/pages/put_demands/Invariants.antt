use Rattle.std.proofs.Common.{◌≡◌, ◌++◌}
use Rattle.mari_scenario.specs.Draws.{lines}
use Rattle.mari_scenario.specs.Pages.{demand_line}
use Rattle.mari_scenario.proofs.pages.put_demands.Given as goal

-- the lines so far, and the state after them
abbrev pub invariant-loop-i : goal.invariant-loop-i
invariant-loop-i l = record {
  text : l.out.items ≡ l.initial.out.items ++ (lines demand_line l.i l.number).text;
  state : l.state ≡ (lines demand_line l.i l.number).state;
}
