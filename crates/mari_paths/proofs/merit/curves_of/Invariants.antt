use Rattle.std.proofs.Common.{take, Vec, Global}
use Rattle.std.specs.List.{All, AllZip}
use Rattle.mari_network.specs.declared.network.Rung.{Rung}
use Rattle.mari_paths.specs.declared.curves.Curve.{Curve}
use Rattle.mari_paths.specs.Merit.{IsCurve, IsCurveOf}
use Rattle.mari_paths.proofs.merit.curves_of.Given as goal

abbrev pub invariant-loop-ladder : goal.invariant-loop-ladder
invariant-loop-ladder l = record {
  curves : All IsCurve l.curves.items;
  each : AllZip (λ (ladder : Vec Rung Global) (curve : Curve). IsCurveOf l.slots ladder.items curve) (take l.ladder-index l.ladders) l.curves.items;
}
