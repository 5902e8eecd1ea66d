use Rattle.std.proofs.Common.{◌*◌, take}
use Rattle.std.specs.List.{All}
use Rattle.mari_paths.specs.declared.curves.CurveStep.{CurveStep}
use Rattle.mari_paths.specs.Merit.{most_supplied}
use Rattle.mari_paths.specs.Starts.{IsNear}
use Rattle.mari_paths.proofs.Supplies.{AreStepsOf}
use Rattle.mari_paths.proofs.curves.curve_of.Given as goal

abbrev pub invariant-loop-rung : goal.invariant-loop-rung
invariant-loop-rung l = record {
  least_near : IsNear (99999 * l.rung-index) l.least;
  more_near : IsNear (199998 * l.rung-index) l.more;
  small : All (λ (s : CurveStep). IsNear most_supplied s.more) l.steps.items;
  steps : AreStepsOf l.slots (take l.rung-index l.ladder) l.least l.more l.steps.items;
}
