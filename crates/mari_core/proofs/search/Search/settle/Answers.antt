use Rattle.std.proofs.Common.{◌≡◌, Some, None, Ok, slice_get, length, arith, ap, sym, subst}
use Rattle.mari_core.specs.declared.event.Event.TheVariants.{Settle}
use Rattle.mari_core.specs.Nodes.{state_at}
use Rattle.mari_core.specs.Growth.{return_refused, settling}
use Rattle.mari_core.specs.Machine.{Machine, seen_by, IsProper}
use Rattle.mari_core.proofs.Machines.{actor_there_by, actor_at, seen_is_cutoff, may_settle_by, settling_cut, entry_step_kept, settle_change, answer_there}
use Rattle.mari_core.proofs.search.Search.settle.Goals as goal

pub settle-requires-clause-cutoff : goal.settle-requires-clause-cutoff
settle-requires-clause-cutoff c =
    let there : slice_get c.self.inside.actors.items c.args.actor ≡ Some c.index.result.now =
    actor_there_by c.self.inside.actors.items c.args.actor c.index.result.now (omega (arith, c.requires.there, ap (λ (s : Machine). length s.actors) c.self.view_is)) c.index.ensures in
    seen_is_cutoff _ c.args.actor c.index.result.now c.self.invariant there

pub settle-requires-clause-finding : goal.settle-requires-clause-finding
settle-requires-clause-finding c =
    let there : slice_get c.self.inside.actors.items c.args.actor ≡ Some c.index.result.now =
    actor_there_by c.self.inside.actors.items c.args.actor c.index.result.now (omega (arith, c.requires.there, ap (λ (s : Machine). length s.actors) c.self.view_is)) c.index.ensures in
    may_settle_by
    (record { tree = c.self.inside.tree; incumbent = c.self.inside.incumbent; actors = c.self.inside.actors.items; first = c.self.inside.first })
    c.args.actor c.args.node c.index.result.now c.args.finding there
    (subst (λ (s : Machine). IsProper s (Settle c.args.actor c.args.node c.args.finding)) (sym c.self.view_is) c.requires.proper)

pub invariant_of-self-2 : goal.invariant_of-self-2
invariant_of-self-2 c =
    let there : slice_get c.self.inside.actors.items c.args.actor ≡ Some c.index.result.now =
    actor_there_by c.self.inside.actors.items c.args.actor c.index.result.now (omega (arith, c.requires.there, ap (λ (s : Machine). length s.actors) c.self.view_is)) c.index.ensures in
    let below = (actor_at _ c.args.actor c.index.result.now c.self.invariant there).below in
    entry_step_kept _ (settling c.self.inside.tree c.args.actor c.args.node c.index.result.now.seen c.args.finding) c.settle.new.self c.settle.result c.self.invariant c.settle.ensures.facts
    (settling_cut c.self.inside.tree c.args.actor c.args.node c.index.result.now.seen c.self.inside.incumbent c.args.finding below) c.settle.ensures.change c.settle.ensures.same

pub returns-clause-facts : goal.returns-clause-facts
returns-clause-facts c =
    let there : slice_get c.self.inside.actors.items c.args.actor ≡ Some c.index.result.now =
    actor_there_by c.self.inside.actors.items c.args.actor c.index.result.now (omega (arith, c.requires.there, ap (λ (s : Machine). length s.actors) c.self.view_is)) c.index.ensures in
    let below = (actor_at _ c.args.actor c.index.result.now c.self.invariant there).below in
    entry_step_kept _ (settling c.self.inside.tree c.args.actor c.args.node c.index.result.now.seen c.args.finding) c.settle.new.self c.settle.result c.self.invariant c.settle.ensures.facts
    (settling_cut c.self.inside.tree c.args.actor c.args.node c.index.result.now.seen c.self.inside.incumbent c.args.finding below) c.settle.ensures.change c.settle.ensures.same

pub returns-clause-change : goal.returns-clause-change
returns-clause-change c =
    let there : slice_get c.self.inside.actors.items c.args.actor ≡ Some c.index.result.now =
    actor_there_by c.self.inside.actors.items c.args.actor c.index.result.now (omega (arith, c.requires.there, ap (λ (s : Machine). length s.actors) c.self.view_is)) c.index.ensures in
    let seen : seen_by (slice_get c.self.inside.actors.items c.args.actor) ≡ c.index.result.now.seen = ap seen_by there in
    settle_change _ c.args.self.now c.args.actor c.args.node c.index.result.now.seen c.args.finding c.settle.new.self (Ok tt) c.self.view_is seen c.in_ok-settle.ensures.change

pub returns-clause-answer : goal.returns-clause-answer
returns-clause-answer c =
    answer_there {X = Unit {0}} c.args.self.now.actors c.args.actor (return_refused c.args.actor (state_at c.args.self.now.tree.nodes c.args.node)) (Ok tt)
    (c.requires.there)
    (subst (λ (s : Machine). return_refused c.args.actor (state_at s.tree.nodes c.args.node) ≡ None) c.self.view_is c.in_ok-settle.ensures.answer)
