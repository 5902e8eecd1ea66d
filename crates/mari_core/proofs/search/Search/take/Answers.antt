use Rattle.std.proofs.Common.{subst}
use Rattle.mari_core.specs.Nodes.{state_at}
use Rattle.mari_core.specs.Growth.{take_refused, IsRefusal}
use Rattle.mari_core.specs.Growth.Entry.{Take}
use Rattle.mari_core.specs.Machine.{Machine}
use Rattle.mari_core.proofs.Machines.{entry_step_kept, answer_there}
use Rattle.mari_core.proofs.search.Search.take.Goals as goal

pub invariant_of-self : goal.invariant_of-self
invariant_of-self c = entry_step_kept _ (Take c.args.actor c.args.node) c.take.new.self c.take.result c.self.invariant c.take.ensures.facts tt c.take.ensures.change c.take.ensures.same

pub returns-clause-facts : goal.returns-clause-facts
returns-clause-facts c = entry_step_kept _ (Take c.args.actor c.args.node) c.take.new.self c.take.result c.self.invariant c.take.ensures.facts tt c.take.ensures.change c.take.ensures.same

pub returns-clause-answer : goal.returns-clause-answer
returns-clause-answer c =
    let refused = c.take.ensures.answer in
    answer_there c.args.self.now.actors c.args.actor (take_refused (state_at c.args.self.now.tree.nodes c.args.node)) c.take.result
    (c.requires.there)
    (subst (λ (s : Machine). IsRefusal (take_refused (state_at s.tree.nodes c.args.node)) c.take.result) c.self.view_is refused)
