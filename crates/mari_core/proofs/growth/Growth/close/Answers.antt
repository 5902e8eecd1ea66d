use Rattle.std.proofs.Common.{arith, List, sym, subst}
use Rattle.mari_core.specs.declared.node.NodeState.TheVariants.{Taken, Closed}
use Rattle.mari_core.specs.Nodes.{TreeNode}
use Rattle.mari_core.specs.Growth.{Grown, CanClose, IsNext}
use Rattle.mari_core.specs.Growth.Entry.{Close}
use Rattle.mari_core.proofs.Entries.{entry_kept_by, next_stays, within_nodes}
use Rattle.mari_core.proofs.growth.Growth.close.Goals as goal

pub invariant_of-self : goal.invariant_of-self
invariant_of-self c =
    let can = subst (λ (g : Grown). CanClose g c.args.node c.args.leaf c.args.cutoff) (sym c.self.view_is) c.requires in (
      entry_kept_by _ (Close can.actor c.args.node c.args.leaf c.args.cutoff) c.set_state.new.nodes.items c.self.invariant.0 can.may c.set_state.ensures.nodes,
      subst (λ (ns : List TreeNode). IsNext ns c.self.inside.next) (sym c.set_state.ensures.nodes)
          (next_stays (Taken can.actor) (Closed c.args.leaf c.args.cutoff) c.self.inside.nodes.items c.args.node c.self.inside.next (λ e. absurd (cc)) (λ e. absurd (cc)) can.may.taken
          (within_nodes c.self.inside.nodes.items c.args.node (Taken can.actor) can.may.taken) c.self.invariant.1),
      omega (arith, c.self.invariant.2, c.set_state.ensures.room),
    )

pub returns-clause-facts : goal.returns-clause-facts
returns-clause-facts c =
    let can = subst (λ (g : Grown). CanClose g c.args.node c.args.leaf c.args.cutoff) (sym c.self.view_is) c.requires in
    entry_kept_by _ (Close can.actor c.args.node c.args.leaf c.args.cutoff) c.set_state.new.nodes.items c.self.invariant.0 can.may c.set_state.ensures.nodes
