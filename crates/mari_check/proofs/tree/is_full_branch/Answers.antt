use Rattle.std.proofs.Common.{subst, arith}
use Rattle.std.proofs.lemmas.Bool.Decides.{nat_tests}
use Rattle.mari_proofs.specs.Steps.{IsFullBranch}
use Rattle.mari_proofs.proofs.TreeWalk.{full_branch}
use Rattle.mari_check.proofs.TreeShapes.{full-is}
use Rattle.mari_check.proofs.tree.is_full_branch.Goals as goal

pub returns-in-Branch : goal.returns-in-Branch
returns-in-Branch c = (
  λ t. full_branch c.args.market.now c.args.prefix.now c.args.item.now _ c.in-Branch.is c.as_slice.ensures (grind (arith, nat_tests, t)),
  λ h. let l =
      full-is c.args.market.now c.args.prefix.now c.as_slice.result.now c.as_slice.ensures (subst (IsFullBranch c.args.market.now c.args.prefix.now) c.in-Branch.is h) in grind (arith, nat_tests, l),
)
