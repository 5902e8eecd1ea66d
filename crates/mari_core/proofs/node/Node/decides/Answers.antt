use Rattle.std.proofs.Common.{length, arith, ap}
use Rattle.mari_gates.proofs.Decisions.{length-decisions}
use Rattle.mari_core.specs.Nodes.{TreeNode}
use Rattle.mari_core.proofs.node.Node.decides.Goals as goal

pub same_word-requires : goal.same_word-requires
same_word-requires c =
    omega (arith, c.requires, ap (λ (n : TreeNode). length n.word) c.self.view_is, length-decisions c.self.inside.prefix c.self.inside.prefix.length)
