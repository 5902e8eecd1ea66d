use Rattle.std.proofs.Common.{◌≡◌, ◌<◌, ℕ, List, length, get_or, Some, arith, sym, ap, subst, ◌∙◌}
use Rattle.mari_core.specs.declared.node.NodeState.{NodeState}
use Rattle.mari_core.specs.Nodes.{state_at}
use Rattle.mari_core.specs.Preorder.{IsPreorder}
use Rattle.mari_core.proofs.Changes.{state_of_node}
use Rattle.mari_core.proofs.Entries.{there_by}
use Rattle.mari_core.proofs.Walks.{item_within}
use Rattle.mari_core.proofs.Finishing.{none_visited, visited_more, all_visited, first_open}
use Rattle.mari_core.proofs.preorder.finished_items.Goals as goal

pub loop-node-init : goal.loop-node-init
loop-node-init c = none_visited c.args.nodes.now _ c.deref-node-items.result.now c.in_ok-items.ensures.items

pub bounds-nodes-node : goal.bounds-nodes-node
bounds-nodes-node c =
    subst (λ (ns : List ℕ). get_or ns c.loop-node.node-index 0 < length c.args.nodes.now) (sym c.deref-node-items.ensures.value)
    (item_within c.args.nodes.now c.in_ok-order.order.items c.loop-node.node-index 0 c.in_ok-order.ensures (omega (arith, c.loop-node-test.true, ap length c.deref-node-items.ensures.value)))

pub loop-node-preserved : goal.loop-node-preserved
loop-node-preserved c =
    let nodes = c.args.nodes.now in
    let x : ℕ = get_or c.deref-node-items.result.now c.loop-node.node-index 0 in
    let within : x < length nodes =
    subst (λ (ns : List ℕ). get_or ns c.loop-node.node-index 0 < length c.args.nodes.now) (sym c.deref-node-items.ensures.value)
    (item_within c.args.nodes.now c.in_ok-order.order.items c.loop-node.node-index 0 c.in_ok-order.ensures (omega (arith, c.loop-node-test.true, ap length c.deref-node-items.ensures.value))) in
    let state : state_at nodes x ≡ Some c.state.result.now =
    state_of_node nodes x c.index-nodes-node.result (there_by nodes x c.index-nodes-node.result within c.index-nodes-node.is) ∙ ap (λ (s : NodeState). Some s) (sym c.state.ensures) in
    let found = rw c.in-Some.is at c.in_ok-item.ensures in
    visited_more c.args.nodes.now c.loop-node.items.items c.push.new.self.items c.deref-node-items.result.now c.loop-node.node-index 0 c.state.result.now c.in-Some.item
    c.loop-node.invariant c.loop-node-test.true state found.0 found.1 c.in_ok-push.ensures.items

pub returns-in_default-clause-not_closed : goal.returns-in_default-clause-not_closed
returns-in_default-clause-not_closed c =
    let nodes = c.args.nodes.now in
    let x : ℕ = get_or c.deref-node-items.result.now c.loop-node.node-index 0 in
    let within : x < length nodes =
    subst (λ (ns : List ℕ). get_or ns c.loop-node.node-index 0 < length c.args.nodes.now) (sym c.deref-node-items.ensures.value)
    (item_within c.args.nodes.now c.in_ok-order.order.items c.loop-node.node-index 0 c.in_ok-order.ensures (omega (arith, c.loop-node-test.true, ap length c.deref-node-items.ensures.value))) in
    let state : state_at nodes x ≡ Some c.state.result.now =
    state_of_node nodes x c.index-nodes-node.result (there_by nodes x c.index-nodes-node.result within c.index-nodes-node.is) ∙ ap (λ (s : NodeState). Some s) (sym c.state.ensures) in
    first_open c.args.nodes.now c.loop-node.items.items c.deref-node-items.result.now c.loop-node.node-index 0 c.state.result.now
    c.loop-node.invariant (subst (IsPreorder c.args.nodes.now) (sym c.deref-node-items.ensures.value) c.in_ok-order.ensures) c.loop-node-test.true state (rw c.in_default.is at c.in_ok-item.ensures)

pub returns-clause-tree : goal.returns-clause-tree
returns-clause-tree c =
    all_visited c.args.nodes.now _ c.deref-node-items.result.now c.loop-node.node-index c.loop-node.invariant
    (subst (IsPreorder c.args.nodes.now) (sym c.deref-node-items.ensures.value) c.in_ok-order.ensures) c.loop-node-test.false
