use Rattle.std.proofs.Common.{◌∙◌, subst}
use Rattle.mari_market.specs.Activation.{gate_word_of}
use Rattle.mari_market.specs.Clearing.{Clears, IsClearing}
use Rattle.mari_workers.proofs.Refined.{clears_by}
use Rattle.mari_workers.proofs.publishing.published_from.Goals as goal

pub returns-in-Ok : goal.returns-in-Ok
returns-in-Ok c =
    let m = c.args.market.now in
    let clearing = c.in-Published.clearing in
    let refined : IsClearing m c.args.budget clearing = subst (Clears m c.args.budget) c.in-Published.is c.in_ok-spent.ensures in
    clears_by m c.args.budget clearing.welfare (gate_word_of m clearing.activation) c.in-Ok.activation clearing.tree c.requires.market
    c.in-Ok.ensures.admissible (c.in-Ok.ensures.welfare ∙ refined.welfare) c.in-Ok.ensures.gates refined.tree refined.within_budget
