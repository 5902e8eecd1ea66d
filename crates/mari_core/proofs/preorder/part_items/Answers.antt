use Rattle.std.proofs.Common.{◌≡◌, ◌<◌, ℕ, List, [], ◌∷◌, ◌++◌, map, take, get_or, length, Some, arith, sym, ap, subst, ◌∙◌}
use Rattle.std.proofs.lemmas.List.{map_more}
use Rattle.mari_market.specs.declared.clearing.PartItem.{PartItem}
use Rattle.mari_core.specs.declared.node.NodeState.{NodeState}
use Rattle.mari_core.specs.Nodes.{state_at}
use Rattle.mari_core.specs.Preorder.{IsPreorder, part_item}
use Rattle.mari_core.proofs.Changes.{state_of_node}
use Rattle.mari_core.proofs.Entries.{there_by}
use Rattle.mari_core.proofs.Walks.{item_within, map_all}
use Rattle.mari_core.proofs.preorder.part_items.Goals as goal

pub loop-node-init : goal.loop-node-init
loop-node-init c = c.in_ok-items.ensures.items

pub bounds-nodes-node : goal.bounds-nodes-node
bounds-nodes-node c =
    subst (λ (ns : List ℕ). get_or ns c.loop-node.node-index 0 < length c.args.nodes.now) (sym c.deref-node-items.ensures.value)
    (item_within c.args.nodes.now c.in_ok-order.order.items c.loop-node.node-index 0 c.in_ok-order.ensures (omega (arith, c.loop-node-test.true, ap length c.deref-node-items.ensures.value)))

pub loop-node-preserved : goal.loop-node-preserved
loop-node-preserved c =
    let nodes = c.args.nodes.now in
    let x : ℕ = get_or c.deref-node-items.result.now c.loop-node.node-index 0 in
    let within : x < length nodes =
    subst (λ (ns : List ℕ). get_or ns c.loop-node.node-index 0 < length c.args.nodes.now) (sym c.deref-node-items.ensures.value)
    (item_within c.args.nodes.now c.in_ok-order.order.items c.loop-node.node-index 0 c.in_ok-order.ensures (omega (arith, c.loop-node-test.true, ap length c.deref-node-items.ensures.value))) in
    let state : state_at nodes x ≡ Some c.state.result.now =
    state_of_node nodes x c.index-nodes-node.result (there_by nodes x c.index-nodes-node.result within c.index-nodes-node.is) ∙ ap (λ (s : NodeState). Some s) (sym c.state.ensures) in
    c.in_ok-push.ensures.items
    ∙ ap (λ (ps : List PartItem). ps ++ c.part_item.result ∷ []) c.loop-node.invariant
    ∙ ap (λ (p : PartItem). map (λ (y : ℕ). part_item (state_at nodes y)) (take c.loop-node.node-index c.deref-node-items.result.now) ++ p ∷ []) (c.part_item.ensures ∙ ap part_item (sym state))
    ∙ sym (map_more (λ (y : ℕ). part_item (state_at nodes y)) c.deref-node-items.result.now c.loop-node.node-index 0 c.loop-node-test.true)

pub returns : goal.returns
returns c = record {
  numbers = c.deref-node-items.result.now;
  preorder = subst (IsPreorder c.args.nodes.now) (sym c.deref-node-items.ensures.value) c.in_ok-order.ensures;
  items_are = c.loop-node.invariant ∙ map_all (λ (y : ℕ). part_item (state_at c.args.nodes.now y)) c.deref-node-items.result.now c.loop-node.node-index c.loop-node-test.false;
}
