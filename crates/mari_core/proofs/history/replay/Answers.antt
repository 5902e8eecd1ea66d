use Rattle.std.specs.Vec.Iter.{into_iter_items}
use Rattle.mari_core.proofs.Replays.{event_taken}
use Rattle.mari_core.proofs.history.replay.Goals as goal

pub loop-event-preserved : goal.loop-event-preserved
loop-event-preserved c =
    event_taken c.in-Ok.search c.loop-event.search c.step.new.self c.args.events.items (into_iter_items c.loop-event.event-iterator)
    (into_iter_items c.next.new.self) c.loop-event.place c.in-Some.event
    c.loop-event.invariant c.in-Some.ensures.steps.0 c.in_default.ensures.answer c.in_default.ensures.change c.in_default.ensures.facts
