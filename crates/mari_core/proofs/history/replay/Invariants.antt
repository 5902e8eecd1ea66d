use Rattle.std.specs.Vec.Iter.{into_iter_items}
use Rattle.mari_core.proofs.Replays.{AtEvent}
use Rattle.mari_core.proofs.history.replay.Given as goal

abbrev pub invariant-loop-event : goal.invariant-loop-event
invariant-loop-event l = AtEvent l.initial.search l.fn.events.items l.search l.place (into_iter_items l.event-iterator)
