use Rattle.std.proofs.Common.{rules, ◌≡◌, ℕ, List, length, arith, ap, subst}
use Rattle.std.proofs.lemmas.List.Sums.{count_by-le-length, length-filter}
use Rattle.std.specs.Result.{IfOk}
use Rattle.std.proofs.lemmas.Result.{IfOk-weaker}
use Rattle.mari_links.specs.Links.{has_gate}
use Rattle.mari_reach_text.specs.Numbers.{IsNumbered, gated_of}
use Rattle.mari_reach_check.proofs.Trees.{named-as}
use Rattle.mari_reach_check.specs.Faults.{FindsTree, cutoff_of, word_claimed}
use Rattle.mari_reach_check.proofs.tree.examine_named.Goals as goal

pub numbered_tree-requires : goal.numbered_tree-requires
numbered_tree-requires c =
    let gated : c.as_slice-2.result.now ≡ gated_of c.args.books.now c.args.made.now = grind (arith) in
    let few = count_by-le-length (has_gate c.args.books.now.links) c.args.made.now.bids in
    omega (arith, ap length gated, length-filter (has_gate c.args.books.now.links) c.args.made.now.bids, few, c.requires.few)

pub returns-in-Some : goal.returns-in-Some
returns-in-Some c =
    let gated : c.as_slice-2.result.now ≡ gated_of c.args.books.now c.args.made.now = grind (arith) in
    let P : List ℕ → Type 0 = λ numbers. IsNumbered c.args.books.now numbers c.args.named c.in-Some.tree in
    let told : IsNumbered c.args.books.now c.as_slice-2.result.now c.args.named c.in-Some.tree = search rules in
    let found : IfOk c.examine_tree.result (FindsTree c.args.made.now.market (cutoff_of c.args.welfare c.args.claim)
    (word_claimed c.args.made.now.market c.args.activation.now c.args.claim) c.args.budget c.in-Some.tree) = search rules in
    IfOk-weaker c.examine_tree.result _ _
    (named-as c.args.books.now c.args.made.now (cutoff_of c.args.welfare c.args.claim)
    (word_claimed c.args.made.now.market c.args.activation.now c.args.claim) c.args.budget c.args.named c.in-Some.tree (subst P gated told))
    found
