use Rattle.std.proofs.Common.{◌≡◌, ◌<◌, ℕ, List, None, max, set, length, arith, ap, sym, subst, ◌∙◌}
use Rattle.mari_market.specs.Finding.{IsAttained}
use Rattle.mari_core.specs.declared.search.Actor.{Actor}
use Rattle.mari_core.specs.Nodes.{changed}
use Rattle.mari_core.specs.Machine.{Machine, offering, offered_to}
use Rattle.mari_core.proofs.Lists.{set_is_changed}
use Rattle.mari_core.proofs.Machines.{offer_kept, by_actor_there}
use Rattle.mari_core.proofs.search.Search.offer.Goals as goal

pub invariant_of-self : goal.invariant_of-self
invariant_of-self c =
    let l : c.args.actor < length c.self.inside.actors.items = omega (arith, c.requires.there, ap (λ (s : Machine). length s.actors) c.self.view_is) in
    let is : set c.self.inside.actors.items c.args.actor c.offer.new.self ≡ changed (offering c.max-self-inside.result c.args.attained) c.self.inside.actors.items c.args.actor =
    ap (λ (a : Actor). set c.self.inside.actors.items c.args.actor a) (c.offer.ensures ∙ ap (offering c.max-self-inside.result c.args.attained) c.index_mut-by.ensures.value)
    ∙ set_is_changed (offering c.max-self-inside.result c.args.attained) c.self.inside.actors.items c.args.actor c.index_mut-by.result.now l in
    let at = subst (λ (s : Machine). IsAttained s.tree.market c.args.attained) (sym c.self.view_is) c.requires.attained in
    offer_kept _ c.args.actor c.max-self-inside.result c.args.attained _ c.self.invariant at l c.max-self-inside.ensures is

pub returns-clause-facts : goal.returns-clause-facts
returns-clause-facts c =
    let l : c.args.actor < length c.self.inside.actors.items = omega (arith, c.requires.there, ap (λ (s : Machine). length s.actors) c.self.view_is) in
    let is : set c.self.inside.actors.items c.args.actor c.offer.new.self ≡ changed (offering c.max-self-inside.result c.args.attained) c.self.inside.actors.items c.args.actor =
    ap (λ (a : Actor). set c.self.inside.actors.items c.args.actor a) (c.offer.ensures ∙ ap (offering c.max-self-inside.result c.args.attained) c.index_mut-by.ensures.value)
    ∙ set_is_changed (offering c.max-self-inside.result c.args.attained) c.self.inside.actors.items c.args.actor c.index_mut-by.result.now l in
    let at = subst (λ (s : Machine). IsAttained s.tree.market c.args.attained) (sym c.self.view_is) c.requires.attained in
    offer_kept _ c.args.actor c.max-self-inside.result c.args.attained _ c.self.invariant at l c.max-self-inside.ensures is

pub returns-clause-change : goal.returns-clause-change
returns-clause-change c =
    let l : c.args.actor < length c.self.inside.actors.items = omega (arith, c.requires.there, ap (λ (s : Machine). length s.actors) c.self.view_is) in
    let is : set c.self.inside.actors.items c.args.actor c.offer.new.self ≡ changed (offering c.max-self-inside.result c.args.attained) c.self.inside.actors.items c.args.actor =
    ap (λ (a : Actor). set c.self.inside.actors.items c.args.actor a) (c.offer.ensures ∙ ap (offering c.max-self-inside.result c.args.attained) c.index_mut-by.ensures.value)
    ∙ set_is_changed (offering c.max-self-inside.result c.args.attained) c.self.inside.actors.items c.args.actor c.index_mut-by.result.now l in
    ap (λ (others : List Actor). record { tree = c.self.inside.tree; incumbent = c.max-self-inside.result; actors = others; first = c.self.inside.first }) is
    ∙ ap
    (λ (w : ℕ). offered_to (record { tree = c.self.inside.tree; incumbent = c.self.inside.incumbent; actors = c.self.inside.actors.items; first = c.self.inside.first }) c.args.actor c.args.attained w)
    c.max-self-inside.ensures
    ∙ ap (λ (s : Machine). offered_to s c.args.actor c.args.attained (max s.incumbent c.args.attained.welfare)) c.self.view_is

pub returns-clause-answer : goal.returns-clause-answer
returns-clause-answer c =
    by_actor_there c.args.self.now.actors c.args.actor None (c.requires.there)
