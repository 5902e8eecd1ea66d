use Rattle.mari_core.proofs.Entries.{entry_kept}
use Rattle.mari_core.proofs.EventsKept.{event_kept, events_kept, entries_kept, settle_allowed, full_is_larger}
use Rattle.mari_core.proofs.laws.facts_are_kept.Goals as goal

pub returns : goal.returns
returns c = record { event = event_kept; events = λ s events. events_kept 0 s events; entry = entry_kept; entries = entries_kept; settle = settle_allowed; larger = full_is_larger }
