use Rattle.std.proofs.Common.{◌<◌, length, arith, sym, ap, subst}
use Rattle.std.proofs.lemmas.List.{length-map}
use Rattle.std.proofs.lemmas.Option.{slice_get_past}
use Rattle.mari_market.specs.Prefix.{IsFeasiblePrefix}
use Rattle.mari_core.specs.Nodes.{TreeNode, words_of}
use Rattle.mari_core.specs.Growth.{Grown}
use Rattle.mari_core.proofs.Entries.{there_by, feasible_prefix}
use Rattle.mari_core.proofs.growth.Growth.prefix_of.Goals as goal

pub returns-then-node-len-clause-feasible : goal.returns-then-node-len-clause-feasible
returns-then-node-len-clause-feasible c =
    let l : c.args.node < length c.self.inside.nodes.items = omega (arith, c.if-node-len.true, c.len.ensures, c.self.inside.nodes.ok.0) in
    subst (λ (g : Grown). IsFeasiblePrefix g.market c.prefix.result) c.self.view_is
    (feasible_prefix _ c.args.node c.index.result.now c.prefix.result c.self.invariant.0
    (there_by c.self.inside.nodes.items c.args.node c.index.result.now l c.index.ensures) c.prefix.ensures.word c.prefix.ensures.cleared)

pub returns-else-node-len-clause-word : goal.returns-else-node-len-clause-word
returns-else-node-len-clause-word c =
    let nodes = ap (λ (g : Grown). length g.nodes) c.self.view_is in
    sym
    (slice_get_past (words_of c.args.self.now.nodes) c.args.node
    (omega (arith, nodes, c.if-node-len.false, c.len.ensures, c.self.inside.nodes.ok.0, length-map c.args.self.now.nodes (λ (n : TreeNode). n.word))))
