use Rattle.std.proofs.Common.{ℕ, pos, List, [], ◌∷◌, map, subst}
use Rattle.std.specs.Prelude.{IfOk}
use Rattle.std.proofs.lemmas.Result.{IfOk-weaker}
use Rattle.mari_market.specs.Clearing.{ArePartsOfSearch}
use Rattle.mari_market.specs.Tree.{TreeHolds}
use Rattle.mari_core.specs.Growth.{Grown, AreCutAt}
use Rattle.mari_core.specs.Nodes.{TreeNode}
use Rattle.mari_core.specs.Preorder.{IsTree, shape_of}
use Rattle.mari_core.proofs.Parts.{tree_holds, tree_is_of_search}
use Rattle.mari_core.proofs.growth.Growth.finish.Goals as goal

pub returns-clause-holds : goal.returns-clause-holds
returns-clause-holds c =
    subst (λ (g : Grown). IfOk c.finished_items.result (λ v. (w : ℕ) → AreCutAt w g.nodes → TreeHolds g.market (pos w) v.items)) c.self.view_is
    (IfOk-weaker c.finished_items.result (λ v. IsTree c.deref.result.now v.items) (λ v. (w : ℕ) → AreCutAt w c.self.inside.nodes.items → TreeHolds c.self.inside.market.now (pos w) v.items)
    (λ v t w cut. tree_holds _ v.items w c.self.invariant.0 (subst (λ (ns : List TreeNode). IsTree ns v.items) c.deref.ensures.value t) cut) c.finished_items.ensures.tree)

pub returns-clause-search : goal.returns-clause-search
returns-clause-search c =
    subst (λ (g : Grown). IfOk c.finished_items.result (λ v. ArePartsOfSearch g.market ([] ∷ []) (map shape_of v.items))) c.self.view_is
    (IfOk-weaker c.finished_items.result (λ v. IsTree c.deref.result.now v.items) (λ v. ArePartsOfSearch c.self.inside.market.now ([] ∷ []) (map shape_of v.items))
    (λ v t. tree_is_of_search _ v.items c.self.invariant.0 (subst (λ (ns : List TreeNode). IsTree ns v.items) c.deref.ensures.value t)) c.finished_items.ensures.tree)
