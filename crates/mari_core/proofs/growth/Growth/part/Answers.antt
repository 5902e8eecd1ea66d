use Rattle.std.proofs.Common.{[], ◌∷◌, List, subst, ap, ◌∙◌}
use Rattle.std.specs.Prelude.{IfOk}
use Rattle.std.proofs.lemmas.Result.{IfOk-weaker}
use Rattle.mari_market.specs.Clearing.{ArePartsOfSearch, IsSpent}
use Rattle.mari_core.specs.Growth.{Grown}
use Rattle.mari_core.specs.Nodes.{TreeNode}
use Rattle.mari_core.specs.Preorder.{IsPart}
use Rattle.mari_core.proofs.Parts.{part_is_of_search, part_is_spent}
use Rattle.mari_core.proofs.growth.Growth.part.Goals as goal

pub returns-clause-search : goal.returns-clause-search
returns-clause-search c =
    subst (λ (g : Grown). IfOk c.part_items.result (λ v. ArePartsOfSearch g.market ([] ∷ []) v.items)) c.self.view_is
    (IfOk-weaker c.part_items.result (λ v. IsPart c.deref.result.now v.items) (λ v. ArePartsOfSearch c.self.inside.market.now ([] ∷ []) v.items)
    (λ v p. part_is_of_search _ v.items c.self.invariant.0 (subst (λ (ns : List TreeNode). IsPart ns v.items) c.deref.ensures.value p)) c.part_items.ensures)

pub returns-clause-spent : goal.returns-clause-spent
returns-clause-spent c = λ full.
    subst (λ (g : Grown). IfOk c.part_items.result (λ v. IsSpent g.market g.budget (record { items = v.items }))) c.self.view_is
    (IfOk-weaker c.part_items.result (λ v. IsPart c.deref.result.now v.items) (λ v. IsSpent c.self.inside.market.now c.self.inside.budget (record { items = v.items }))
    (λ v p. part_is_spent _ v.items c.self.invariant.0 (subst (λ (ns : List TreeNode). IsPart ns v.items) c.deref.ensures.value p) (ap (λ (g : Grown). g.full) c.self.view_is ∙ full))
    c.part_items.ensures)
