use Rattle.std.proofs.Common.{arith, ◌+◌, ◌<◌, List, length, sym, subst}
use Rattle.mari_core.specs.declared.node.NodeState.TheVariants.{Taken}
use Rattle.mari_core.specs.Nodes.{TreeNode}
use Rattle.mari_core.specs.Growth.{Grown, CanBranch, IsNext, children_at}
use Rattle.mari_core.specs.Growth.Entry.{Full}
use Rattle.mari_core.proofs.Entries.{entry_kept_by, next_back, within_nodes}
use Rattle.mari_core.proofs.growth.Growth.mark.Goals as goal

pub invariant_of-self : goal.invariant_of-self
invariant_of-self c =
    let can = subst (λ (g : Grown). CanBranch g c.args.node) (sym c.self.view_is) c.requires.may in
    let more = subst (λ (g : Grown). g.budget < length g.nodes + length (children_at g c.args.node)) (sym c.self.view_is) c.requires.full in (
      entry_kept_by _ (Full can.actor c.args.node can.cutoff) c.set_state.new.nodes.items c.self.invariant.0 (can.may, more) c.set_state.ensures.nodes,
      subst (λ (ns : List TreeNode). IsNext ns c.min-self-inside.result) (sym c.set_state.ensures.nodes)
          (next_back c.self.inside.nodes.items c.args.node c.self.inside.next c.min-self-inside.result
          (within_nodes c.self.inside.nodes.items c.args.node (Taken can.actor) can.may.taken) c.min-self-inside.ensures c.self.invariant.1),
      omega (arith, c.self.invariant.2, c.set_state.ensures.room),
    )

pub returns-clause-facts : goal.returns-clause-facts
returns-clause-facts c =
    let can = subst (λ (g : Grown). CanBranch g c.args.node) (sym c.self.view_is) c.requires.may in
    let more = subst (λ (g : Grown). g.budget < length g.nodes + length (children_at g c.args.node)) (sym c.self.view_is) c.requires.full in
    entry_kept_by _ (Full can.actor c.args.node can.cutoff) c.set_state.new.nodes.items c.self.invariant.0 (can.may, more) c.set_state.ensures.nodes
