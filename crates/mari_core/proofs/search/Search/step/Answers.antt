use Rattle.std.proofs.Common.{◌≡◌, ◌≤◌, Option, Some, None, length, arith, ap}
use Rattle.std.proofs.lemmas.Option.{slice_get_past}
use Rattle.mari_core.specs.declared.event.Event.{Event}
use Rattle.mari_core.specs.declared.event.Event.TheVariants.{Look, Offer, Take, Settle, GiveBack}
use Rattle.mari_core.specs.declared.event.StepFault.TheVariants.{NoActor}
use Rattle.mari_core.specs.declared.search.Actor.{Actor}
use Rattle.mari_core.specs.Nodes.{state_at}
use Rattle.mari_core.specs.Growth.{take_refused, return_refused}
use Rattle.mari_core.specs.Machine.{Machine, actor_of, by_actor, refusal}
use Rattle.mari_core.proofs.search.Search.step.Goals as goal

-- a step of an actor that is not there is refused
no_actor : (s : Machine) (e : Event) → length s.actors ≤ actor_of e → refusal s e ≡ Some NoActor
no_actor s (Look k) past = ap (λ (a : Option Actor). by_actor a None) (slice_get_past s.actors k past)
no_actor s (Offer k attained) past = ap (λ (a : Option Actor). by_actor a None) (slice_get_past s.actors k past)
no_actor s (Take k x) past = ap (λ (a : Option Actor). by_actor a (take_refused (state_at s.tree.nodes x))) (slice_get_past s.actors k past)
no_actor s (Settle k x finding) past = ap (λ (a : Option Actor). by_actor a (return_refused k (state_at s.tree.nodes x))) (slice_get_past s.actors k past)
no_actor s (GiveBack k x) past = ap (λ (a : Option Actor). by_actor a (return_refused k (state_at s.tree.nodes x))) (slice_get_past s.actors k past)

pub returns-then-actor-len-clause-answer : goal.returns-then-actor-len-clause-answer
returns-then-actor-len-clause-answer c =
    no_actor c.args.self.now c.args.event (omega (arith, c.if-actor-len.true, c.len.ensures, c.self.inside.actors.ok.0, c.actor.ensures, ap (λ (s : Machine). length s.actors) c.self.view_is))
