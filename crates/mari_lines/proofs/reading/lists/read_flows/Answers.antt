use Rattle.std.specs.Fmt.{signed_decimal}
use Rattle.mari_units.specs.Numbers.{Within}
use Rattle.std.proofs.lemmas.Result.{err_from_is_err_and}
use Rattle.mari_lines.proofs.Gathered.{begun_unread}
use Rattle.mari_lines.proofs.reading.lists.read_flows.Goals as goal

pub returns-in_err-flow : goal.returns-in_err-flow
returns-in_err-flow c =
    begun_unread (λ flow. Within 199998 flow) signed_decimal 0 256 c.loop-word.flows.items c.in-Some.word.now c.loop-word.left c.next_word.new.self
    c.args.words.now _ c.from_residual-in_err-flow.result c.loop-word.invariant c.in-Some.ensures
    c.in_err-flow.ensures (err_from_is_err_and c.from_residual-in_err-flow.result c.from_residual-in_err-flow.ensures.1)
