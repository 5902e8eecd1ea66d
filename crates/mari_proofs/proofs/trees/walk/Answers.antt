use Rattle.std.proofs.Common.{subst, Bool, List}
use Rattle.mari_market.specs.declared.certificate.Leaf.{Leaf as LeafRecord}
use Rattle.mari_market.specs.Prefix.{word_of}
use Rattle.mari_market.specs.Tree.{LeafHoldsFor}
use Rattle.mari_market.specs.declared.certificate.TreeItem.{TreeItem}
use Rattle.mari_proofs.specs.Steps.{FitsItem}
use Rattle.mari_proofs.proofs.TreeWalk.{walk_more, ends_too_early, walk_ends}
use Rattle.mari_proofs.proofs.trees.walk.Goals as goal

pub loop-place-preserved : goal.loop-place-preserved
loop-place-preserved c =
    let m = c.args.market.now in
    let holds : List Bool → LeafRecord → Type 0 = LeafHoldsFor m c.args.cutoff.0 (word_of c.args.word.now) in
    let step = c.in-On.ensures in
    let fits = subst (λ (i : TreeItem). FitsItem m holds c.in-Some.prefix i c.in-On.following) c.index-tree-place.is step.0 in
    record {
      before = walk_more m holds c.args.tree.now c.loop-place.place c.index-tree-place.result c.in-Some.prefix c.loop-place.next c.in-On.following c.loop-place-test.true c.in-Some.is
          c.loop-place.invariant.before fits;
      feasible = step.1;
    }

pub returns-in-None : goal.returns-in-None
returns-in-None c =
    walk_ends c.args.market.now (LeafHoldsFor c.args.market.now c.args.cutoff.0 (word_of c.args.word.now)) c.args.tree.now c.loop-place.place
    c.loop-place.next c.loop-place-test.false c.in-None.is c.loop-place.invariant.before

pub returns-in-Some-next : goal.returns-in-Some-next
returns-in-Some-next c =
    ends_too_early c.args.market.now (LeafHoldsFor c.args.market.now c.args.cutoff.0 (word_of c.args.word.now)) c.args.tree.now c.loop-place.place
    c.in-Some-next.field-0 c.loop-place.next c.loop-place-test.false c.in-Some-next.is c.loop-place.invariant.before
