use Rattle.std.proofs.Common.{ap, ◌∙◌, set}
use Rattle.mari_core.specs.Nodes.{TreeNode, in_state}
use Rattle.mari_core.proofs.Lists.{set_is_changed}
use Rattle.mari_core.proofs.growth.set_state.Goals as goal

pub returns-clause-nodes : goal.returns-clause-nodes
returns-clause-nodes c =
    ap (λ (n : TreeNode). set c.args.nodes.now.items c.args.node n) (c.set_state.ensures ∙ ap (in_state c.args.state) c.index_mut-at.ensures.value)
    ∙ set_is_changed (in_state c.args.state) c.args.nodes.now.items c.args.node c.index_mut-at.result.now c.requires
