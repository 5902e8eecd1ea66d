use Rattle.std.proofs.Common.{refl, sym}
use Rattle.mari_workers.specs.declared.fate.Aim.{Aim}
use Rattle.mari_workers.specs.Refine.{ended}
use Rattle.mari_workers.proofs.Refined.{clears_as, last_clears, last_nodes, nodes_as}
use Rattle.mari_workers.proofs.Turns.{walk_started}
use Rattle.mari_workers.proofs.refining.refined_from.Goals as goal

pub walked-requires-clause-walk : goal.walked-requires-clause-walk
walked-requires-clause-walk c =
    walk_started c.args.market.now (record { word = c.gate_word.result; welfare = c.args.found.welfare; budget = c.args.budget }) c.args.budget
    c.args.found c.start-walk.result.done.items c.start-walk.result.left.items c.start-walk.result.next
    c.requires.found refl refl c.start-walk.ensures.done c.start-walk.ensures.left c.start-walk.ensures.next

pub returns-in-Ok-clause-law : goal.returns-in-Ok-clause-law
returns-in-Ok-clause-law c =
    let m = c.args.market.now in
    let aim : Aim = record { word = c.gate_word.result; welfare = c.args.found.welfare; budget = c.args.budget } in
    let found = c.args.found in
    clears_as m c.args.budget c.ended.result (ended c.walked.new.walk c.in-Ok.last found.activation found.welfare) c.ended.ensures
    (last_clears m aim c.walked.new.walk c.in-Ok.last found.activation c.requires.market c.requires.found.clearing.optimal.admissible c.requires.found.clearing.welfare
    (sym c.gate_word.ensures.word) c.in-Ok.ensures)

pub returns-in-Ok-clause-nodes : goal.returns-in-Ok-clause-nodes
returns-in-Ok-clause-nodes c =
    let m = c.args.market.now in
    let aim : Aim = record { word = c.gate_word.result; welfare = c.args.found.welfare; budget = c.args.budget } in
    nodes_as m c.ended.result (ended c.walked.new.walk c.in-Ok.last c.args.found.activation c.args.found.welfare) c.ended.ensures
    (last_nodes m aim c.walked.new.walk c.in-Ok.last c.args.found.activation c.requires.market c.in-Ok.ensures)
