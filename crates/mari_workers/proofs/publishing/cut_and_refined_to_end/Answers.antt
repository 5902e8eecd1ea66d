use Rattle.std.proofs.Common.{subst}
use Rattle.mari_market.specs.Clearing.{Clears}
use Rattle.mari_workers.specs.Refine.{HasNodes}
use Rattle.mari_workers.proofs.Refined.{may_again}
use Rattle.mari_workers.proofs.publishing.cut_and_refined_to_end.Goals as goal

pub cut_and_refined-requires-else-eq-clause-found : goal.cut_and_refined-requires-else-eq-clause-found
cut_and_refined-requires-else-eq-clause-found c =
    let m = c.args.market.now in
    may_again m c.args.budget c.args.found c.in-Published.first c.requires.found
    (subst (Clears m c.args.budget) c.in-Published.is c.in_ok-spent.ensures.law) (subst (HasNodes m) c.in-Published.is c.in_ok-spent.ensures.nodes)
