use Rattle.std.proofs.Common.{arith, ◌≡◌, Some, List, ap, sym, subst, ◌∙◌}
use Rattle.mari_core.specs.declared.node.NodeState.TheVariants.{Taken}
use Rattle.mari_core.specs.Nodes.{TreeNode, state_at}
use Rattle.mari_core.specs.Growth.{Grown, IsNext}
use Rattle.mari_core.specs.Growth.Entry.{GiveBack}
use Rattle.mari_core.proofs.Entries.{return_passes, entry_kept_by, next_back, within_nodes}
use Rattle.mari_core.proofs.growth.Growth.give_back.Goals as goal

pub invariant_of-self : goal.invariant_of-self
invariant_of-self c =
    let taken : state_at c.self.inside.nodes.items c.args.node ≡ Some (Taken c.args.actor) =
    ap (λ (g : Grown). state_at g.nodes c.args.node) c.self.view_is ∙ return_passes c.args.actor _ c.in_ok-check_taken.ensures.answer in (
      entry_kept_by _ (GiveBack c.args.actor c.args.node) c.set_state.new.nodes.items c.self.invariant.0 taken c.set_state.ensures.nodes,
      subst (λ (ns : List TreeNode). IsNext ns c.min-self-inside.result) (sym c.set_state.ensures.nodes)
          (next_back c.self.inside.nodes.items c.args.node c.self.inside.next c.min-self-inside.result
          (within_nodes c.self.inside.nodes.items c.args.node (Taken c.args.actor) taken) c.min-self-inside.ensures c.self.invariant.1),
      omega (arith, c.self.invariant.2, c.set_state.ensures.room),
    )

pub returns-clause-facts : goal.returns-clause-facts
returns-clause-facts c =
    let taken : state_at c.self.inside.nodes.items c.args.node ≡ Some (Taken c.args.actor) =
    ap (λ (g : Grown). state_at g.nodes c.args.node) c.self.view_is ∙ return_passes c.args.actor _ c.in_ok-check_taken.ensures.answer in
    entry_kept_by _ (GiveBack c.args.actor c.args.node) c.set_state.new.nodes.items c.self.invariant.0 taken c.set_state.ensures.nodes
