use Rattle.std.proofs.Common.{◌≡◌}
use Rattle.mari_workers.specs.Worked.{HoldsBest}
use Rattle.mari_workers.proofs.together.settle_rest.Given as goal

abbrev pub invariant-loop : goal.invariant-loop
invariant-loop g l = record {
  can_next : (goal.iterator-loop g).can_next l.iterator';
  is_finite : (goal.iterator-loop g).is_finite l.iterator';
  mine : HoldsBest g.N.SearchName.market g.N.SearchName.incumbent l.mine;
  parts : l.mine.seat.parts ≡ l.initial.mine.seat.parts;
}
