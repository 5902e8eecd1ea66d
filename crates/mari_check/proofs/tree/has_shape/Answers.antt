use Rattle.std.proofs.Common.{subst}
use Rattle.mari_market.specs.declared.certificate.TreeItem.{TreeItem}
use Rattle.mari_proofs.specs.Steps.{FitsItem, IsFullBranch}
use Rattle.mari_proofs.proofs.TreeWalk.{walk_more}
use Rattle.mari_check.specs.Shapes.{AnyLeaf}
use Rattle.mari_check.proofs.TreeShapes.{at-end, branch-fails, left-over}
use Rattle.mari_check.proofs.tree.has_shape.Goals as goal

pub loop-item-preserved : goal.loop-item-preserved
loop-item-preserved c =
    let m = c.args.market.now in
    let fits = subst (λ (i : TreeItem). FitsItem m AnyLeaf c.in-Some.prefix i c.after-next.result) c.item-item.is c.after-next.ensures.fits in
    record {
      before = walk_more m AnyLeaf c.args.tree.now c.loop-item.item-index c.item-item.result c.in-Some.prefix c.loop-item.next c.after-next.result c.loop-item-test.true c.in-Some.is
          c.loop-item.invariant.before fits;
      feasible = c.after-next.ensures.feasible;
    }

pub returns-then-is_full_branch : goal.returns-then-is_full_branch
returns-then-is_full_branch c =
    let m = c.args.market.now in
    branch-fails m c.args.tree.now c.loop-item.item-index c.item-item.result c.loop-item-test.true c.in-Some.prefix c.loop-item.next c.in-Some.is c.loop-item.invariant.before
    (subst (λ (i : TreeItem). IsFullBranch m c.in-Some.prefix i) c.item-item.is (c.is_full_branch.ensures.0 c.if-is_full_branch.true))

pub returns-in_default : goal.returns-in_default
returns-in_default c = left-over c.args.market.now c.args.tree.now c.loop-item.item-index c.item-item.result c.loop-item-test.true c.loop-item.next c.in_default.is c.loop-item.invariant.before

pub returns : goal.returns
returns c = at-end c.args.market.now c.args.tree.now c.loop-item.item-index c.loop-item.next c.is_none.result c.loop-item-test.false c.loop-item.invariant.before c.is_none.ensures
