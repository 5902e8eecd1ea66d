use Rattle.std.proofs.Common.{[], ◌∷◌, subst, sym}
use Rattle.mari_market.specs.Tree.{AreParts}
use Rattle.mari_workers.specs.Refine.{IsOldLeaf}
use Rattle.mari_workers.proofs.Cuts.{cutting_ended}
use Rattle.mari_workers.proofs.cutting.cut_back.Goals as goal

pub returns-in-Ok-clause-holds : goal.returns-in-Ok-clause-holds
returns-in-Ok-clause-holds c =
    subst (AreParts c.args.market.now (IsOldLeaf c.args.market.now c.args.welfare) ([] ∷ [])) (sym c.of.ensures)
    (cutting_ended c.args.market.now c.args.welfare c.walked.new.walk.done.items c.walked.new.walk.left.items c.in-Ok.ensures.walk)
