use Rattle.std.proofs.Common.{◌≡◌, ◌<◌, List, set, length, None, arith, ap, ◌∙◌}
use Rattle.mari_core.specs.declared.search.Actor.{Actor}
use Rattle.mari_core.specs.Nodes.{changed}
use Rattle.mari_core.specs.Machine.{Machine, seeing}
use Rattle.mari_core.proofs.Lists.{set_is_changed}
use Rattle.mari_core.proofs.Machines.{look_kept, by_actor_there}
use Rattle.mari_core.proofs.search.Search.look.Goals as goal

-- the actors, as they are written
looked : (c : goal.After-self-1) → set c.self.inside.actors.items c.args.actor c.look.new.self ≡ changed (seeing c.self.inside.incumbent) c.self.inside.actors.items c.args.actor
looked c =
    let l : c.args.actor < length c.self.inside.actors.items = omega (arith, c.requires.there, ap (λ (s : Machine). length s.actors) c.self.view_is) in
    ap (λ (a : Actor). set c.self.inside.actors.items c.args.actor a) (c.look.ensures ∙ ap (seeing c.self.inside.incumbent) c.index_mut-by.ensures.value)
    ∙ set_is_changed (seeing c.self.inside.incumbent) c.self.inside.actors.items c.args.actor c.index_mut-by.result.now l

pub invariant_of-self : goal.invariant_of-self
invariant_of-self c = look_kept _ c.args.actor _ c.self.invariant (looked c)

pub returns-clause-facts : goal.returns-clause-facts
returns-clause-facts c = look_kept _ c.args.actor _ c.self.invariant (looked c)

pub returns-clause-change : goal.returns-clause-change
returns-clause-change c =
    ap (λ (others : List Actor). record { tree = c.self.inside.tree; incumbent = c.self.inside.incumbent; actors = others; first = c.self.inside.first }) (looked c)
    ∙ ap (λ (s : Machine). record s { actors = changed (seeing s.incumbent) s.actors c.args.actor }) c.self.view_is

pub returns-clause-answer : goal.returns-clause-answer
returns-clause-answer c =
    by_actor_there c.args.self.now.actors c.args.actor None (c.requires.there)
