use Rattle.std.proofs.Common.{◌≡◌, Some, List, length, arith, ap, sym, subst, ◌∙◌}
use Rattle.mari_core.specs.declared.node.NodeState.TheVariants.{Untaken, Taken}
use Rattle.mari_core.specs.Nodes.{TreeNode, state_at}
use Rattle.mari_core.specs.Growth.{Grown, IsNext}
use Rattle.mari_core.specs.Growth.Entry.{Take}
use Rattle.mari_core.proofs.Changes.{length-with_state}
use Rattle.mari_core.proofs.Entries.{take_passes, entry_kept_by, none_before_still, within_nodes}
use Rattle.mari_core.proofs.growth.Growth.take.Goals as goal

pub next_untaken-self-inside-requires-clause-within : goal.next_untaken-self-inside-requires-clause-within
next_untaken-self-inside-requires-clause-within c =
    omega (arith, c.self.invariant.1.within, length-with_state (Taken c.args.actor) c.self.inside.nodes.items c.args.node, ap length c.set_state.ensures.nodes, ap length c.deref.ensures.value)

pub next_untaken-self-inside-requires-clause-few : goal.next_untaken-self-inside-requires-clause-few
next_untaken-self-inside-requires-clause-few c =
    omega (
      arith,
      c.self.invariant.0.within_budget,
      c.self.invariant.0.budget_is,
      length-with_state (Taken c.args.actor) c.self.inside.nodes.items c.args.node,
      ap length c.set_state.ensures.nodes,
      ap length c.deref.ensures.value,
    )

pub next_untaken-self-inside-requires-clause-none_before : goal.next_untaken-self-inside-requires-clause-none_before
next_untaken-self-inside-requires-clause-none_before c =
    let waits : state_at c.self.inside.nodes.items c.args.node ≡ Some Untaken = ap (λ (g : Grown). state_at g.nodes c.args.node) c.self.view_is ∙ take_passes _ c.in_ok-check_untaken.ensures.answer in
    λ y l e. none_before_still (Taken c.args.actor) c.self.inside.nodes.items c.args.node c.self.inside.next (λ same. absurd (cc))
    (within_nodes c.self.inside.nodes.items c.args.node Untaken waits) c.self.invariant.1 y l
    (ap (λ (ns : List TreeNode). state_at ns y) (sym c.set_state.ensures.nodes) ∙ ap (λ (ns : List TreeNode). state_at ns y) (sym c.deref.ensures.value) ∙ e)

pub invariant_of-self : goal.invariant_of-self
invariant_of-self c =
    let waits : state_at c.self.inside.nodes.items c.args.node ≡ Some Untaken =
    ap (λ (g : Grown). state_at g.nodes c.args.node) c.self.view_is ∙ take_passes _ c.in_ok-check_untaken.ensures.answer in (
      entry_kept_by _ (Take c.args.actor c.args.node) c.set_state.new.nodes.items c.self.invariant.0 waits c.set_state.ensures.nodes,
      subst (λ (ns : List TreeNode). IsNext ns c.next_untaken-self-inside.result) c.deref.ensures.value c.next_untaken-self-inside.ensures,
      omega (arith, c.self.invariant.2, c.set_state.ensures.room),
    )

pub returns-clause-facts : goal.returns-clause-facts
returns-clause-facts c =
    let waits : state_at c.self.inside.nodes.items c.args.node ≡ Some Untaken = ap (λ (g : Grown). state_at g.nodes c.args.node) c.self.view_is ∙ take_passes _ c.in_ok-check_untaken.ensures.answer in
    entry_kept_by _ (Take c.args.actor c.args.node) c.set_state.new.nodes.items c.self.invariant.0 waits c.set_state.ensures.nodes
