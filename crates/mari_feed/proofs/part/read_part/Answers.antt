use Rattle.serde_json.specs.View.{view}
use Rattle.mari_feed.specs.Texts.{IsJsonOf}
use Rattle.mari_feed.proofs.Outcomes.{one_part, outcome, answers_part}
use Rattle.mari_feed.proofs.part.read_part.Goals as goal

pub returns-then-is_memory-clause-one : goal.returns-then-is_memory-clause-one
returns-then-is_memory-clause-one c = one_part c.args.bytes.now

pub returns-in-Ok-clause-one : goal.returns-in-Ok-clause-one
returns-in-Ok-clause-one c = one_part c.args.bytes.now

pub returns-in-Ok-clause-part : goal.returns-in-Ok-clause-part
returns-in-Ok-clause-part c =
    let json : IsJsonOf c.args.bytes.now (view c.in-Ok.value) = record { utf8 = c.in-Ok.ensures.ok.0; reads = c.in-Ok.ensures.ok.1 } in
    answers_part c.args.bytes.now c.part_of.result (outcome c.args.bytes.now (view c.in-Ok.value) c.part_of.result json c.part_of.ensures)
