use Rattle.std.proofs.Common.{◌≡◌, ◌∙◌, ◌++◌, ◌∷◌, Option, Some, None, map, rules, sym, subst}
use Rattle.mari_reach.specs.declared.decisions.ReachItem.{ReachItem}
use Rattle.mari_reach_text.specs.Numbers.{item_of}
use Rattle.mari_reach_text.proofs.Missing.{none-missing}
use Rattle.mari_reach_text.proofs.numbers.numbered_tree.Goals as goal

pub returns-in-None-item_named : goal.returns-in-None-item_named
returns-in-None-item_named c = λ items e.
    let own = item_of c.args.books.now c.args.gated.now in
    let left : c.loop-item.item-iterator.rest.items ≡ c.in-Some.item ∷ c.next.new.self.rest.items = search rules in
    let nothing : own c.in-Some.item ≡ None = sym c.item_named.ensures ∙ c.in-None-item_named.is in
    let known : map Some c.loop-item.tree.items ++ own c.in-Some.item ∷ map own c.next.new.self.rest.items ≡ map own c.args.named = rw left at c.loop-item.invariant in
    let P : Option ReachItem → Type 0 = λ x. map Some c.loop-item.tree.items ++ x ∷ map own c.next.new.self.rest.items ≡ map own c.args.named in
    none-missing items c.loop-item.tree.items (map own c.next.new.self.rest.items) (subst P nothing known ∙ e)
