use Rattle.std.proofs.Common.{◌≡◌, replicate}
use Rattle.mari_core.specs.Machine.{new_actor}
use Rattle.mari_core.proofs.search.new_actors.Given as goal

abbrev pub invariant-loop : goal.invariant-loop
invariant-loop l = l.actors.items ≡ replicate l.counter (new_actor l.welfare)
