-- What is found of a tree by names is what is found of the tree that they stand for.
use Rattle.std.proofs.Common.{◌≡◌, ◌∙◌, ℕ, ℤ, Bool, List, [], ◌∷◌, Some, map, refl, sym, subst}
use Rattle.mari_remain.specs.declared.books.Books.{Books}
use Rattle.mari_remain.specs.declared.market.RunMarket.{RunMarket}
use Rattle.mari_reach.specs.declared.decisions.ReachItem.{ReachItem}
use Rattle.mari_reach_text.specs.declared.named.NamedItem.{NamedItem}
use Rattle.mari_reach_text.specs.Numbers.{IsNumbered, gated_of}
use Rattle.mari_reach.specs.Tree.{ReachHolds}
use Rattle.mari_reach_check.specs.declared.tree.TreeFound.{TreeFound}
use Rattle.mari_reach_check.specs.declared.tree.TreeFound.TheVariants as found
use Rattle.mari_reach_check.specs.Faults.{FindsNamed, FindsTree, IsWholeTree}

-- lists of items that are there are equal
same_some : {X : Type 0} (xs ys : List X) → map Some xs ≡ map Some ys → xs ≡ ys
same_some [] [] e = refl
same_some [] (y ∷ ys) e = absurd (cc e)
same_some (x ∷ xs) [] e = absurd (cc e)
same_some (x ∷ xs) (y ∷ ys) e =
    let first : x ≡ y = cc e in
    let rest : map Some xs ≡ map Some ys = cc e in
    rw (first, same_some xs ys rest) refl

module _ (books : Books) (made : RunMarket) (cutoff : ℤ) (word : List Bool) (budget : ℕ) (items : List NamedItem) (tree : List ReachItem)
    (numbered : IsNumbered books (gated_of books made) items tree) where
  own : (other : List ReachItem) → IsNumbered books (gated_of books made) items other → other ≡ tree
  own other also = same_some other tree (sym also ∙ numbered)

  pub named-as : (f : TreeFound) → FindsTree made.market cutoff word budget tree f → FindsNamed books made cutoff word budget items f
  named-as found.Sound h =
      (record { tree = tree; numbered = numbered; whole = h.0 }, record { tree = tree; numbered = numbered; holds = h.1 })
  named-as found.BadTree h = λ other. h (subst (IsWholeTree made.market budget) (own other.tree other.numbered) other.whole)
  named-as found.BadLeaf h =
      (record { tree = tree; numbered = numbered; whole = h.0 }, λ other. h.1 (subst (ReachHolds made.market cutoff word) (own other.tree other.numbered) other.holds))
