use Rattle.std.proofs.Common.{◌≡◌, List, [], ◌∷◌, ◌++◌, false, arith, sym, subst, ap, ◌∙◌}
use Rattle.mari_market.specs.Prefix.{word_of}
use Rattle.mari_core.specs.Nodes.{TreeNode, new_node}
use Rattle.mari_core.specs.Growth.{IsGrowth, IsNext}
use Rattle.mari_core.proofs.Seeds.{seed_by}
use Rattle.mari_core.proofs.growth.Growth.start.Goals as goal

pub invariant_of-result : goal.invariant_of-result
invariant_of-result c =
    let one : c.push_reserved.new.self.items ≡ new_node (word_of c.empty_prefix.result) ∷ [] =
    c.push_reserved.ensures.items
    ∙ ap (λ (ns : List TreeNode). ns ++ c.new.result ∷ []) c.in_ok-nodes.ensures.items
    ∙ ap (λ (n : TreeNode). n ∷ []) c.new.ensures in
    let first = subst (λ (ns : List TreeNode). IsGrowth (record { market = c.args.market.now; budget = c.args.budget; nodes = ns; full = false }) × IsNext ns 0) (sym one)
    (seed_by c.args.market.now c.args.budget (word_of c.empty_prefix.result) c.empty_prefix.ensures.word c.requires.market c.requires.budget) in
    (first.0, first.1, omega (arith, c.in_ok-nodes.ensures.capacity, c.push_reserved.ensures.capacity))
