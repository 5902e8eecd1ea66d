use Rattle.std.proofs.Common.{subst}
use Rattle.mari_core.specs.declared.event.FinishFault.{FinishFault}
use Rattle.mari_core.specs.Preorder.{IsOpenFault}
use Rattle.mari_workers.proofs.Rest.{all_done}
use Rattle.mari_workers.proofs.Visits.{may_refine}
use Rattle.mari_workers.proofs.alone.optimum_of_search.Goals as goal

pub returns-in-Ok : goal.returns-in-Ok
returns-in-Ok c = may_refine c.args.search c.in-Ok.clearing c.requires c.in-Ok.ensures.clearing c.in-Ok.ensures.welfare c.in-Ok.ensures.first c.in-Ok.ensures.search

pub unreachable-requires : goal.unreachable-requires
unreachable-requires c =
    let nodes = c.args.search.tree.nodes in
    let fault = subst (λ (f : FinishFault). IsOpenFault nodes f) c.in-Err-NotClosed.field-0-is c.in-Err-NotClosed.ensures.not_closed in
    all_done nodes c.in-Err-NotClosed.field-0-0 fault c.requires.none_waits c.requires.none_taken
