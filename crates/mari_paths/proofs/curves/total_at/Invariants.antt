use Rattle.std.proofs.Common.{◌≡◌, ◌*◌, take}
use Rattle.mari_paths.specs.Merit.{supplied_by_all}
use Rattle.mari_paths.specs.Starts.{most_stood_in, IsNear}
use Rattle.mari_paths.proofs.curves.total_at.Given as goal

abbrev pub invariant-loop-curve : goal.invariant-loop-curve
invariant-loop-curve l = record {
  near : IsNear (most_stood_in * l.curve-index) l.total;
  total : l.total ≡ supplied_by_all (take l.curve-index l.curves) l.price;
}
