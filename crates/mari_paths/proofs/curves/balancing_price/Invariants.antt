use Rattle.std.proofs.Common.{◌≡◌, ◌⊎◌, ◌≤◌, pos, ◌+ℤ◌, neg_ℤ, ◌≤ℤ◌, ◌<ℤ◌}
use Rattle.mari_network.specs.declared.slots.TheConstants.{BEYOND}
use Rattle.mari_paths.specs.Merit.{supplied_by_all}
use Rattle.mari_paths.proofs.curves.balancing_price.Given as goal

abbrev pub invariant-loop-width : goal.invariant-loop-width
invariant-loop-width l = record {
  some : 1 ≤ l.width;
  low : neg_ℤ BEYOND ≤ℤ l.price;
  high : (l.price +ℤ pos l.width) ≤ℤ BEYOND;
  here : (l.price ≡ neg_ℤ BEYOND) ⊎ (supplied_by_all l.curves l.price ≤ℤ pos 0);
  above : (l.price +ℤ pos l.width ≡ BEYOND) ⊎ (pos 0 <ℤ supplied_by_all l.curves (l.price +ℤ pos l.width));
}

abbrev pub decreases-loop-width : goal.decreases-loop-width
decreases-loop-width l = l.width
