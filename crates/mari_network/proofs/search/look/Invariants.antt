use Rattle.std.proofs.Common.{◌≡◌, ℕ, ◌<◌, ◌≤◌, Bool, List, length, take}
use Rattle.std.specs.List.{All}
use Rattle.mari_network.specs.Chain.{hop_at}
use Rattle.mari_network.specs.Spread.{IsSpread, Keeps}
use Rattle.mari_network.proofs.Spread.{Leads}
use Rattle.mari_network.proofs.search.look.Given as goal

abbrev pub invariant-loop-crossing : goal.invariant-loop-crossing
invariant-loop-crossing l = record {
  spread : (old : List Bool) (start : ℕ) → IsSpread l.network.borders.now l.flows old start l.fn.marked l.fn.hops.items → IsSpread l.network.borders.now l.flows old start l.marked l.hops.items;
  keeps : Keeps l.fn.marked l.marked;
  stay : (k : ℕ) → k < length l.fn.hops.items → hop_at l.hops.items k ≡ hop_at l.fn.hops.items k;
  more : length l.fn.hops.items ≤ length l.hops.items;
  into : All (Leads l.network.borders.now l.flows l.marked) (take l.crossing-index l.crossings);
}
