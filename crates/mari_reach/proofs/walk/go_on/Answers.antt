use Rattle.std.proofs.Common.{◌∙◌, sym}
use Rattle.mari_reach.proofs.TreeWalk.{all_before, go_next, go_up, next_there}
use Rattle.mari_reach.proofs.walk.go_on.Goals as goal

pub returns-in-Some-second-clause-next : goal.returns-in-Some-second-clause-next
returns-in-Some-second-clause-next c =
    go_next c.loop-last.path.items c.pop.new.self.items c.push.new.self.items c.in-Some.last c.in-Some-second.second c.in-Some.ensures.items
    (sym c.second.ensures ∙ c.in-Some-second.is) c.in_ok-push.ensures.items ∙ c.loop-last.invariant.next

pub returns-in-Some-second-clause-decisions : goal.returns-in-Some-second-clause-decisions
returns-in-Some-second-clause-decisions c = λ m all.
    next_there m c.loop-last.path.items c.pop.new.self.items c.push.new.self.items c.in-Some.last c.in-Some-second.second c.in-Some.ensures.items
    (sym c.second.ensures ∙ c.in-Some-second.is) c.in_ok-push.ensures.items (c.loop-last.invariant.decisions m all)

pub loop-last-preserved : goal.loop-last-preserved
loop-last-preserved c = record {
  next = go_up c.loop-last.path.items c.pop.new.self.items c.in-Some.last c.in-Some.ensures.items (sym c.second.ensures ∙ c.in_default-second.is) ∙ c.loop-last.invariant.next;
  decisions = λ m all. all_before m c.loop-last.path.items c.pop.new.self.items c.in-Some.last c.in-Some.ensures.items (c.loop-last.invariant.decisions m all);
}
