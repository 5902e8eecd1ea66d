use Rattle.std.proofs.Common.{subst}
use Rattle.mari_core.specs.Nodes.{state_at}
use Rattle.mari_core.specs.Growth.{return_refused, IsRefusal}
use Rattle.mari_core.specs.Growth.Entry.{GiveBack}
use Rattle.mari_core.specs.Machine.{Machine}
use Rattle.mari_core.proofs.Machines.{entry_step_kept, answer_there}
use Rattle.mari_core.proofs.search.Search.give_back.Goals as goal

pub invariant_of-self : goal.invariant_of-self
invariant_of-self c =
    entry_step_kept _ (GiveBack c.args.actor c.args.node) c.give_back.new.self c.give_back.result c.self.invariant c.give_back.ensures.facts tt
    c.give_back.ensures.change c.give_back.ensures.same

pub returns-clause-facts : goal.returns-clause-facts
returns-clause-facts c =
    entry_step_kept _ (GiveBack c.args.actor c.args.node) c.give_back.new.self c.give_back.result c.self.invariant c.give_back.ensures.facts tt
    c.give_back.ensures.change c.give_back.ensures.same

pub returns-clause-answer : goal.returns-clause-answer
returns-clause-answer c =
    let refused = c.give_back.ensures.answer in
    answer_there c.args.self.now.actors c.args.actor (return_refused c.args.actor (state_at c.args.self.now.tree.nodes c.args.node)) c.give_back.result
    (c.requires.there)
    (subst (λ (s : Machine). IsRefusal (return_refused c.args.actor (state_at s.tree.nodes c.args.node)) c.give_back.result) c.self.view_is refused)
