use Rattle.std.proofs.Common.{ℕ, ◌<◌, ◌≤◌, ◌-◌, length, not}
use Rattle.std.specs.Prelude.{count_by}
use Rattle.std.specs.List.{AllZip}
use Rattle.mari_network.specs.Chain.{hop_at}
use Rattle.mari_network.specs.Spread.{IsSpread, MarkedInto}
use Rattle.mari_network.proofs.search.spread.Given as goal

abbrev pub invariant-loop-at : goal.invariant-loop-at
invariant-loop-at l = record {
  spread : IsSpread l.network.borders.now l.flows l.fn.marked l.start l.marked l.hops.items;
  there : l.at ≤ length l.hops.items;
  into : (k : ℕ) → k < l.at → AllZip (MarkedInto l.marked (hop_at l.hops.items k).zone) l.network.borders.now l.flows;
}

abbrev pub decreases-loop-at : goal.decreases-loop-at
decreases-loop-at l = count_by not l.fn.marked - l.at
