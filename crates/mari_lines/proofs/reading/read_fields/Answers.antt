use Rattle.std.proofs.Common.{◌∙◌}
use Rattle.std.proofs.lemmas.Result.{err_from_is_err_and}
use Rattle.mari_lines.specs.Spelling.{fields}
use Rattle.mari_lines.proofs.FirstWords.{head_part, demand_part, done_part}
use Rattle.mari_lines.proofs.NotRead.{handed_on}
use Rattle.mari_lines.proofs.reading.read_fields.Goals as goal

pub returns-in_err-date-in-Mari : goal.returns-in_err-date-in-Mari
returns-in_err-date-in-Mari c = handed_on _ _ c.args.words.now _ fields c.args.words.now _ c.from_residual.result
    (err_from_is_err_and c.from_residual.result c.from_residual.ensures.1) c.in_err-date-in-Mari.ensures (λ l r e. head_part l c.args.words.now r.0 (r.1 ∙ c.in-Mari.is) e)

pub returns-in_err-place-in-Demand : goal.returns-in_err-place-in-Demand
returns-in_err-place-in-Demand c = handed_on _ _ c.args.words.now _ fields c.args.words.now _ c.from_residual-in_err-place-in-Demand.result
    (err_from_is_err_and c.from_residual-in_err-place-in-Demand.result c.from_residual-in_err-place-in-Demand.ensures.1)
    c.in_err-place-in-Demand.ensures (λ l r e. demand_part l c.args.words.now r.0 (r.1 ∙ c.in-Demand.is) e)

pub returns-in_err-published-in-Done : goal.returns-in_err-published-in-Done
returns-in_err-published-in-Done c = handed_on _ _ c.args.words.now _ fields c.args.words.now _ c.from_residual-in_err-published-in-Done.result
    (err_from_is_err_and c.from_residual-in_err-published-in-Done.result c.from_residual-in_err-published-in-Done.ensures.1)
    c.in_err-published-in-Done.ensures (λ l r e. done_part l c.args.words.now r.0 (r.1 ∙ c.in-Done.is) e)
