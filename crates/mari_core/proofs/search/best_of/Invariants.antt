use Rattle.std.proofs.Common.{◌≡◌}
use Rattle.std.specs.Vec.Iter.{into_iter_items}
use Rattle.mari_core.specs.Machine.{best_of}
use Rattle.mari_core.proofs.search.best_of.Given as goal

abbrev pub invariant-loop-actor : goal.invariant-loop-actor
invariant-loop-actor l = best_of l.incumbent l.first l.fn.actors.items ≡ best_of l.incumbent l.first (into_iter_items l.actor-iterator)
