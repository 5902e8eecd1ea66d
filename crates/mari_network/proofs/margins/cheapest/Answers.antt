use Rattle.std.proofs.Common.{rules}
use Rattle.mari_network.proofs.margins.cheapest.Goals as goal
use Rattle.mari_network.proofs.margins.cheapest.Goals.{in-Some+then-goes_first, in-Some+else-goes_first, in_default}

pub loop-at-preserved : goal.loop-at-preserved
loop-at-preserved c = elim c.match-margins-hop.branch [
  | in-Some+then-goes_first w ↦ record {
    below = search rules;
    later = search rules;
    some = search rules;
    first = search rules;
    none = search rules;
  }
  | in-Some+else-goes_first w ↦ record {
    below = search rules;
    later = search rules;
    some = search rules;
    first = search rules;
    none = search rules;
  }
  | in_default w ↦ record {
    below = search rules;
    later = search rules;
    some = search rules;
    first = search rules;
    none = search rules;
  }
]
