use Rattle.std.proofs.Common.{◌≡◌, List, ℕ, [], ◌∷◌, ◌++◌, Some, sym, ap, subst, ◌∙◌}
use Rattle.mari_core.specs.declared.node.NodeState.{NodeState}
use Rattle.mari_core.specs.Nodes.{state_at}
use Rattle.mari_core.proofs.Changes.{state_of_node}
use Rattle.mari_core.proofs.Entries.{there_by}
use Rattle.mari_core.proofs.Walks.{AtWalk, next_number, number_within, walk_goes}
use Rattle.mari_core.proofs.preorder.preorder.Goals as goal

pub bounds-nodes-node : goal.bounds-nodes-node
bounds-nodes-node c =
    let at = next_number c.args.nodes.now c.loop-node.waiting.items c.pop.new.self.items c.loop-node.order.items c.in-Some.node c.loop-node.invariant c.in-Some.ensures.items in
    number_within c.args.nodes.now c.loop-node.order.items at.rest c.in-Some.node at.whole

pub loop-node-preserved : goal.loop-node-preserved
loop-node-preserved c =
    let nodes = c.args.nodes.now in
    let at = next_number nodes c.loop-node.waiting.items c.pop.new.self.items c.loop-node.order.items c.in-Some.node c.loop-node.invariant c.in-Some.ensures.items in
    let there = there_by nodes c.in-Some.node c.index-nodes-node.result (number_within nodes c.loop-node.order.items at.rest c.in-Some.node at.whole) c.index-nodes-node.is in
    let state : state_at nodes c.in-Some.node ≡ Some c.state.result.now = state_of_node nodes c.in-Some.node c.index-nodes-node.result there ∙ ap (λ (s : NodeState). Some s) (sym c.state.ensures) in
    subst (λ (order : List ℕ). AtWalk nodes c.push_children.new.waiting.items order) (sym c.in_ok-push-2.ensures.items)
    (subst (λ (waiting : List ℕ). AtWalk nodes waiting (c.loop-node.order.items ++ c.in-Some.node ∷ [])) (sym c.in_ok-push_children.ensures)
    (walk_goes nodes c.pop.new.self.items c.loop-node.order.items c.in-Some.node c.state.result.now at state))
